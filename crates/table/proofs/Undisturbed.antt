-- A round settles a channel that nothing disturbs.
use Rattle.std.proofs.Common.{◌≡◌, Bool, true, false, not, ◌&&◌, sym, refl, ap, ◌∙◌, add-zero, zero-add}
use mathlib.Core.Bool.{and-true, and-false, or-false}
use lib.Bits.{or_zero_r}
use lib.Ieee.{lt}
use Rattle.std.proofs.lemmas.Bool.{and_parts, not-true}
use Rattle.values.specs.Ranges.{zero}
use Rattle.table.specs.declared.records.Channel.{Channel}
use Rattle.table.specs.declared.round.Excess.{Excess}
use Rattle.table.specs.declared.round.Pass.{Pass}
use Rattle.table.specs.declared.round.Reading.{Reading}
use Rattle.table.specs.Round.{over, excess_of, shut_off, judged, with_reading, undisturbed, settled}

and_not : (b : Bool) → (b && not b) ≡ false
and_not true = refl
and_not false = refl

-- the second of two that both hold is a test that fails
second_fails : (a b : Bool) → (a && not b) ≡ true → (a ≡ true) × (b ≡ false)
second_fails a b e = let parts = and_parts a (not b) e in (parts.0, not-true b parts.1)

-- what `undisturbed` says, part by part
record UndisturbedParts (p : Pass) (c : Channel) (r : Reading) : Type 0 where
  closed : p.loop_closed ≡ true
  high : r.inhibit_low ≡ false
  under_voltage : over r.voltage p.limits.voltage ≡ false
  under_current : over r.current p.limits.current ≡ false
  under_set : over r.current c.setpoint.current ≡ false
  no_voltage_bounds : lt zero c.bounds.voltage ≡ false
  no_current_bounds : lt zero c.bounds.current ≡ false

parts : (p : Pass) (c : Channel) (r : Reading) → undisturbed p c r (excess_of p c r) ≡ true → UndisturbedParts p c r
parts p c r e =
    let current_bounds = second_fails _ (lt zero c.bounds.current) e in
    let voltage_bounds = second_fails _ (lt zero c.bounds.voltage) current_bounds.0 in
    let set = second_fails _ (over r.current c.setpoint.current) voltage_bounds.0 in
    let current = second_fails _ (over r.current p.limits.current) set.0 in
    let voltage = second_fails _ (over r.voltage p.limits.voltage) current.0 in
    let lines = second_fails p.loop_closed r.inhibit_low voltage.0 in
    record {
      closed = lines.0;
      high = lines.1;
      under_voltage = voltage.1;
      under_current = current.1;
      under_set = set.1;
      no_voltage_bounds = voltage_bounds.1;
      no_current_bounds = current_bounds.1;
    }

-- x is the excess that was worked out, d the channel with its reading stored, b what was answered of them
module _ (p : Pass) (c : Channel) (r : Reading) (x : Excess) (d : Channel) (b : Bool) (worked-out : x ≡ excess_of p c r) (stored : d ≡ with_reading c r) (answered : b ≡ undisturbed p d r x) (held : b ≡ true) where
  facts : UndisturbedParts p c r
  facts =
      parts p c r (ap (undisturbed p c r) (sym worked-out) ∙ ap (λ (a : Channel). undisturbed p a r x) (sym stored) ∙ sym answered ∙ held)

  pub stays_open : false ≡ shut_off p c r
  stays_open = simp (facts.closed, facts.high, facts.under_voltage, facts.under_current, facts.under_set, and-false)

  settles : settled (with_reading c r) ≡ judged p c r
  settles =
      simp (facts.closed, facts.high, facts.under_voltage, facts.under_current, facts.under_set, facts.no_voltage_bounds, facts.no_current_bounds, and-false, and-true, or-false, and_not, or_zero_r, zero-add, add-zero)

  pub is_settled : settled d ≡ judged p c r
  is_settled = ap settled stored ∙ settles
