-- Each place stands at its own offset, and there only.
use Rattle.std.proofs.Common.{◌≡◌, ℕ, ◌+◌, ◌%◌, ◌<◌, ◌≤◌, Bool, true, false, cond, eqb, ltb, List, [], ◌∷◌, Some, None, Ok, Err, Option, sym, refl, ap, ◌∙◌, inl, inr, arith}
use Rattle.std.proofs.lemmas.Bool.{eqb-true, cases_Bool, cases_lt, cond-true, cond-false}
use Rattle.std.proofs.lemmas.Grind.{common_steps}
use Rattle.registers.specs.declared.place.ModuleWord.TheVariants as mw
use Rattle.registers.specs.declared.place.ModuleValue.TheVariants as mv
use Rattle.registers.specs.declared.place.ChannelWord.TheVariants as cw
use Rattle.registers.specs.declared.place.ChannelValue.TheVariants as cv
use Rattle.registers.specs.declared.place.GroupValue.TheVariants as gv
use Rattle.registers.specs.declared.place.WordRegister.TheVariants as wr
use Rattle.registers.specs.declared.place.ValueRegister.TheVariants as vr
use Rattle.registers.specs.declared.place.Place.{Place}
use Rattle.registers.specs.declared.place.Place.TheVariants as place
use Rattle.registers.specs.Faults.{refusal_1}
use Rattle.registers.specs.Map.{Row, stands_in, module_rows, channel_rows, group_rows, channel_begins, channel_at, within_channel, place_at, outside, filled, located, Placed}
use Rattle.registers.specs.Offsets.{offset_of, MapStands}
use Rattle.registers.proofs.Finding.{in_module, in_groups, in_channels, in_channel}

-- the rows of a part that begins at b are at the offsets of what stands there
abbrev Own : ℕ → List Row → Type 0
Own b [] = Unit {0}
Own b (r ∷ rs) = (b + r.offset ≡ offset_of r.stands) × Own b rs

own : (b : ℕ) (rs : List Row) (o : ℕ) (p : Place) → Own b rs → stands_in rs o ≡ Some p → b + o ≡ offset_of p
own b [] o p h e = cc
own b (r ∷ rs) o p h e = elim (cases_Bool (eqb o r.offset)) [
  | inl t ↦
      let same : Some r.stands ≡ Some p = sym (cond-true (eqb o r.offset) (Some r.stands) (stands_in rs o) t) ∙ e in
      let q : r.stands ≡ p = cc in
      ap (λ (n : ℕ). b + n) (eqb-true o r.offset t) ∙ h.0 ∙ ap offset_of q
  | inr f ↦ own b rs o p h.1 (sym (cond-false (eqb o r.offset) (Some r.stands) (stands_in rs o) f) ∙ e)
]

own_channel : (k : ℕ) → Own (channel_begins k) (channel_rows k)
own_channel k = grind arith

own_module : Own 0 module_rows
own_module = grind arith

own_groups : Own 0 group_rows
own_groups = grind arith

only_at : (n o : ℕ) (p : Place) → place_at n o ≡ Some p → o ≡ offset_of p
only_at n o p e = elim (cases_lt o 0x60) [
  | inl h ↦ let q = own 0 module_rows o p own_module (in_module n o h ∙ e) in omega (arith, q)
  | inr l ↦ elim (cases_lt o 0x2A0) [
    | inl h ↦ elim (cases_Bool (ltb (channel_at o) n)) [
      | inl t ↦
          let q = own (channel_begins (channel_at o)) (channel_rows (channel_at o)) (within_channel o) p (own_channel (channel_at o)) (sym (cond-true (ltb (channel_at o) n) _ _ t) ∙ in_channels n o l h ∙ e) in
          omega (arith, q)
      | inr f ↦ let q = sym (cond-false (ltb (channel_at o) n) _ _ f) ∙ in_channels n o l h ∙ e in cc
    ]
    | inr h ↦ let q = own 0 group_rows o p own_groups (in_groups n o h ∙ e) in omega (arith, q)
  ]
]

only_filled : (n o : ℕ) (x : Option Place) (p : Place) → place_at n o ≡ x → filled o x ≡ Ok p → o ≡ offset_of p
only_filled n o None p e h = cc
only_filled n o (Some q) p e h = let same : q ≡ p = cc in only_at n o q e ∙ ap offset_of same

only_located : (n o : ℕ) (b : Bool) (p : Place) → cond b (Err (refusal_1 o)) (filled o (place_at n o)) ≡ Ok p → o ≡ offset_of p
only_located n o true p e = cc
only_located n o false p e = only_filled n o (place_at n o) p refl e

inside : (o : ℕ) → o % 2 ≡ 0 → o ≤ 0x3FE → outside o ≡ false
inside o e h = grind (arith, common_steps)

-- channel k, c bytes from where its block begins
found_channel : (n k c : ℕ) (p : Place) → n ≤ 12 → k < n → c % 2 ≡ 0 → c < 0x30 → stands_in (channel_rows k) c ≡ Some p → located n (channel_begins k + c) ≡ Ok p
found_channel n k c p few below even short e =
    let o = channel_begins k + c in
    let at : channel_at o ≡ k = omega arith in
    let rest : within_channel o ≡ c = omega arith in
    let here : stands_in (channel_rows (channel_at o)) (within_channel o) ≡ Some p = ap (λ (j : ℕ). stands_in (channel_rows j) (within_channel o)) at ∙ ap (stands_in (channel_rows k)) rest ∙ e in
    cond-false (outside o) _ _ (inside o (omega arith) (omega arith))
    ∙ ap (filled o) (sym (in_channel n o (omega arith) (omega arith) (omega arith)) ∙ here)

found_lower : (n k c : ℕ) (p : Place) → n ≤ 12 → k < n → c % 2 ≡ 0 → c + 2 < 0x30 → stands_in (channel_rows k) (c + 2) ≡ Some p → located n (channel_begins k + c + 2) ≡ Ok p
found_lower n k c p few below even short e =
    let same : channel_begins k + c + 2 ≡ channel_begins k + (c + 2) = omega arith in
    ap (located n) same ∙ found_channel n k (c + 2) p few below (omega arith) short e

found : (n : ℕ) (p : Place) → n ≤ 12 → Placed n p → located n (offset_of p) ≡ Ok p
found n (place.Word (wr.Module mw.Status)) few h = refl
found n (place.Word (wr.Module mw.Control)) few h = refl
found n (place.Word (wr.Module mw.EventStatus)) few h = refl
found n (place.Word (wr.Module mw.EventMask)) few h = refl
found n (place.Word (wr.Module mw.EventChannelStatus)) few h = refl
found n (place.Word (wr.Module mw.EventChannelMask)) few h = refl
found n (place.Word (wr.Module mw.PlacedChannels)) few h = refl
found n (place.Word (wr.Module mw.DeviceClass)) few h = refl
found n (place.Word (wr.Channel k cw.Status)) few h = found_channel n k 0x00 _ few h refl (omega arith) refl
found n (place.Word (wr.Channel k cw.Control)) few h = found_channel n k 0x02 _ few h refl (omega arith) refl
found n (place.Word (wr.Channel k cw.EventStatus)) few h = found_channel n k 0x04 _ few h refl (omega arith) refl
found n (place.Word (wr.Channel k cw.EventMask)) few h = found_channel n k 0x06 _ few h refl (omega arith) refl
found n (place.Upper (vr.Module mv.VoltageRampSpeed)) few h = refl
found n (place.Upper (vr.Module mv.VoltageMax)) few h = refl
found n (place.Upper (vr.Module mv.CurrentMax)) few h = refl
found n (place.Upper (vr.Module mv.Temperature)) few h = refl
found n (place.Upper (vr.Channel k cv.VoltageSet)) few h = found_channel n k 0x08 _ few h refl (omega arith) refl
found n (place.Upper (vr.Channel k cv.CurrentSet)) few h = found_channel n k 0x0C _ few h refl (omega arith) refl
found n (place.Upper (vr.Channel k cv.VoltageMeasure)) few h = found_channel n k 0x10 _ few h refl (omega arith) refl
found n (place.Upper (vr.Channel k cv.CurrentMeasure)) few h = found_channel n k 0x14 _ few h refl (omega arith) refl
found n (place.Upper (vr.Channel k cv.VoltageBounds)) few h = found_channel n k 0x18 _ few h refl (omega arith) refl
found n (place.Upper (vr.Channel k cv.CurrentBounds)) few h = found_channel n k 0x1C _ few h refl (omega arith) refl
found n (place.Upper (vr.Channel k cv.VoltageNominal)) few h = found_channel n k 0x20 _ few h refl (omega arith) refl
found n (place.Upper (vr.Channel k cv.CurrentNominal)) few h = found_channel n k 0x24 _ few h refl (omega arith) refl
found n (place.Upper (vr.Group gv.Voltage)) few h = refl
found n (place.Upper (vr.Group gv.Current)) few h = refl
found n (place.Upper (vr.Group gv.VoltageBounds)) few h = refl
found n (place.Upper (vr.Group gv.CurrentBounds)) few h = refl
found n (place.Upper (vr.Group gv.Emergency)) few h = refl
found n (place.Upper (vr.Group gv.OnOff)) few h = refl
found n (place.Lower (vr.Module mv.VoltageRampSpeed)) few h = refl
found n (place.Lower (vr.Module mv.VoltageMax)) few h = refl
found n (place.Lower (vr.Module mv.CurrentMax)) few h = refl
found n (place.Lower (vr.Module mv.Temperature)) few h = refl
found n (place.Lower (vr.Channel k cv.VoltageSet)) few h = found_lower n k 0x08 _ few h refl (omega arith) refl
found n (place.Lower (vr.Channel k cv.CurrentSet)) few h = found_lower n k 0x0C _ few h refl (omega arith) refl
found n (place.Lower (vr.Channel k cv.VoltageMeasure)) few h = found_lower n k 0x10 _ few h refl (omega arith) refl
found n (place.Lower (vr.Channel k cv.CurrentMeasure)) few h = found_lower n k 0x14 _ few h refl (omega arith) refl
found n (place.Lower (vr.Channel k cv.VoltageBounds)) few h = found_lower n k 0x18 _ few h refl (omega arith) refl
found n (place.Lower (vr.Channel k cv.CurrentBounds)) few h = found_lower n k 0x1C _ few h refl (omega arith) refl
found n (place.Lower (vr.Channel k cv.VoltageNominal)) few h = found_lower n k 0x20 _ few h refl (omega arith) refl
found n (place.Lower (vr.Channel k cv.CurrentNominal)) few h = found_lower n k 0x24 _ few h refl (omega arith) refl
found n (place.Lower (vr.Group gv.Voltage)) few h = refl
found n (place.Lower (vr.Group gv.Current)) few h = refl
found n (place.Lower (vr.Group gv.VoltageBounds)) few h = refl
found n (place.Lower (vr.Group gv.CurrentBounds)) few h = refl
found n (place.Lower (vr.Group gv.Emergency)) few h = refl
found n (place.Lower (vr.Group gv.OnOff)) few h = refl

pub map_stands : MapStands
map_stands = record { found = found; only = λ n o p e. only_located n o (outside o) p e }
