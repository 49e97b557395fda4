-- Lemmas on the register map.
use Rattle.std.proofs.Common.{◌≡◌, ℕ, ◌<◌, ◌≤◌, cond, ltb, None, arith}
use Rattle.std.proofs.lemmas.Grind.{common_steps}
use Rattle.registers.specs.Map.{stands_in, module_rows, channel_rows, group_rows, channel_at, within_channel, place_at}

module _ (n o : ℕ) where
  pub in_module : o < 0x60 → stands_in module_rows o ≡ place_at n o
  in_module h = grind (arith, common_steps)

  pub in_groups : 0x2A0 ≤ o → stands_in group_rows o ≡ place_at n o
  in_groups h = grind (arith, common_steps)

  pub in_channels : 0x60 ≤ o → o < 0x2A0 → cond (ltb (channel_at o) n) (stands_in (channel_rows (channel_at o)) (within_channel o)) None ≡ place_at n o
  in_channels l h = grind (arith, common_steps)

  pub in_channel : 0x60 ≤ o → o < 0x2A0 → channel_at o < n → stands_in (channel_rows (channel_at o)) (within_channel o) ≡ place_at n o
  in_channel l h k = grind (arith, common_steps)
