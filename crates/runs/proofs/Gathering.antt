-- After a write and after a round nothing is left to collect.
use Rattle.std.proofs.Common.{◌≡◌, ℕ, zero, suc, ◌+◌, ◌*◌, min, Bool, List, length, take, replicate, sym, refl, ap, ◌∙◌, arith}
use lib.Bits.{bit_and, bit_or, and_comm, or_comm, or_add_and}
use Rattle.values.specs.declared.model.Model.{Model}
use Rattle.table.specs.declared.records.Conditions.{Conditions}
use Rattle.table.specs.declared.records.Table.{Table}
use Rattle.table.specs.declared.round.Reading.{Reading}
use Rattle.table.specs.New.{new_channel, new_table}
use Rattle.table.specs.Parts.{with_channel_events}
use Rattle.table.specs.Reads.{placed}
use Rattle.table.specs.Writes.{passing, collected, requested, served}
use Rattle.table.proofs.RoundLawsBits.{kept_or, kept_self}
use Rattle.module.specs.State.{State, count, new_state, write_state}
use Rattle.module.specs.Rounds.{stepped_from, begun_state, round_pass, round_state}
use Rattle.module.proofs.WriteLawsOthers.{count_after}
use Rattle.runs.specs.Law.{Gathered}
use Rattle.runs.proofs.Rounded.{is_accepted}

or_again : (a p : ℕ) → bit_or (bit_or a p) p ≡ bit_or a p
or_again a p =
    let kept : bit_and p (bit_or a p) ≡ p = ap (bit_and p) (or_comm a p) ∙ kept_or p p a (kept_self p) in
    omega (arith, or_add_and (bit_or a p) p, and_comm (bit_or a p) p ∙ kept)

-- collecting twice is collecting once
twice : (n : ℕ) (t : Table) → collected n (collected n t) ≡ collected n t
twice n t = ap (with_channel_events t) (or_again t.channel_events (passing (placed n t)))

quiet : (m : Model) (i j : ℕ) → passing (take i (replicate j (new_channel m))) ≡ 0
quiet m zero j = refl
quiet m (suc i) zero = refl
quiet m (suc i) (suc j) = ap (λ (n : ℕ). n * 2 + 0) (quiet m i j)

pub new_gathered : (m : Model) (n : ℕ) → Gathered (new_state m n)
new_gathered m n = ap (with_channel_events (new_table m)) (ap (bit_or 0) (quiet m (min (count (new_state m n)) 12) 12))

pub wrote_gathered : (s : State) (o w : ℕ) → Gathered (write_state s o w)
wrote_gathered s o w =
    let t = served (count s) s.table (requested (count s) s.table o w) in
    ap (λ (n : ℕ). collected n (collected (count s) t)) (count_after s o w) ∙ twice (count s) t

pub round_gathered : (b : Bool) (s : State) (x : Conditions) (rs : List Reading) → length rs ≡ count s → Gathered (round_state b s x rs)
round_gathered b s x rs each =
    let left = stepped_from (round_pass b s x) (begun_state s x) 0 rs in
    ap (λ (u : State). collected (count u) u.table) (is_accepted b s x rs each) ∙ twice (count left) left.table ∙ sym (ap (λ (u : State). u.table) (is_accepted b s x rs each))
