-- What every event keeps of a run: g is the history so far and s the state after it.
use Rattle.std.proofs.Common.{◌≡◌, ℕ, ◌+◌, ◌<◌, ◌≤◌, true, false, List, [], ◌∷◌, ◌++◌, length, get_or, Some, Ok, Result, sym, refl, ap, ◌∙◌, subst, inl, inr, arith}
use lib.Ieee.{Float, binary32, to_bits}
use Rattle.std.proofs.lemmas.List.{length-append, get_or_append_left}
use Rattle.std.proofs.lemmas.Bool.{both_ways, cases_lt}
use Rattle.values.specs.Ranges as Ranges
use Rattle.values.specs.Model.{nominal_voltage}
use Rattle.values.specs.Words.{pattern, value_of, upper_word, lower_word}
use Rattle.registers.specs.declared.fault.ModuleFault.{ModuleFault}
use Rattle.table.specs.declared.records.Channel.{Channel}
use Rattle.table.specs.Parts.{half}
use Rattle.module.specs.State.{State}
use Rattle.module.proofs.WriteLawsValues.{bits_back}
use Rattle.runs.specs.History.{Event, write}
use Rattle.runs.specs.Law.{no_event, IsWrite, Joined, FromHalves, limit_after, latest_limit, Clears, SwitchesOn, Restored}
use Rattle.runs.proofs.Wrote.{Completes, Wrote}

-- ---- one event more

abbrev pub more : List Event → Event → List Event
more g e = g ++ e ∷ []

pub more_length : (g : List Event) (e : Event) → length (more g e) ≡ length g + 1
more_length g e = length-append g (e ∷ [])

pub more_old : (g : List Event) (e : Event) (i : ℕ) → i < length g → get_or (more g e) i no_event ≡ get_or g i no_event
more_old g e i h = get_or_append_left g (e ∷ []) no_event i h

pub more_new : (g : List Event) (e : Event) → get_or (more g e) (length g) no_event ≡ e
more_new [] e = refl
more_new (x ∷ g) e = more_new g e

pub limit_more : (l : ℕ) (g : List Event) (e : Event) → latest_limit l (more g e) ≡ limit_after (latest_limit l g) e
limit_more l [] e = refl
limit_more l (x ∷ g) e = limit_more (limit_after l x) g e

-- ---- the held half

-- the upper half u, which the lower half at a completes, was the last write, and accepted
pub record HeldFrom (g : List Event) (a u : ℕ) : Type 0 where
  pub place : ℕ
  pub register : ℕ
  pub within : place < length g
  pub accepted : get_or g place no_event ≡ write register u (Ok tt)
  pub awaits : a ≡ register + 2
  pub latest : (q : ℕ) → place < q → q < length g → IsWrite (get_or g q no_event) → ⊥

pub held_more : (g : List Event) (e : Event) (a u : ℕ) → (IsWrite e → ⊥) → HeldFrom g a u → HeldFrom (more g e) a u
held_more g e a u quiet h = record {
  place = h.place;
  register = h.register;
  within = omega (arith, h.within, more_length g e);
  accepted = more_old g e h.place h.within ∙ h.accepted;
  awaits = h.awaits;
  latest = λ q after before is. elim (cases_lt q (length g)) [
    | inl low ↦ h.latest q after low (subst IsWrite (more_old g e q low) is)
    | inr high ↦
        let at : q ≡ length g = omega (arith, more_length g e) in
        quiet (subst IsWrite (ap (λ (i : ℕ). get_or (more g e) i no_event) at ∙ more_new g e) is)
  ];
}

pub held_new : (g : List Event) (o w : ℕ) → HeldFrom (more g (write o w (Ok tt))) (o + 2) w
held_new g o w = record {
  place = length g;
  register = o;
  within = omega (arith, more_length g (write o w (Ok tt)));
  accepted = more_new g (write o w (Ok tt));
  awaits = refl;
  latest = λ q after before is. omega (arith, more_length g (write o w (Ok tt)));
}

-- ---- values

joined_more : (g : List Event) (e : Event) (k : ℕ) (v : Float) → Joined g k v → Joined (more g e) k v
joined_more g e k v j = record {
  first = j.first;
  second = j.second;
  register = j.register;
  upper = j.upper;
  lower = j.lower;
  order = j.order;
  within = omega (arith, j.within, more_length g e);
  own_or_group = j.own_or_group;
  upper_accepted = more_old g e j.first (omega (arith, j.order, j.within)) ∙ j.upper_accepted;
  lower_accepted = more_old g e j.second j.within ∙ j.lower_accepted;
  between = λ m after before is. j.between m after before (subst IsWrite (more_old g e m (omega (arith, j.within))) is);
  value = j.value;
  words = j.words;
}

pub halves_more : (g : List Event) (e : Event) (k : ℕ) (v : Float) → FromHalves g k v → FromHalves (more g e) k v
halves_more g e k v (inl z) = inl z
halves_more g e k v (inr j) = inr (joined_more g e k v j)

-- the two words of an admitted value
words_of : (low high v : Float) (u w : ℕ) → v ≡ value_of u w → Ranges.within low v high ≡ true → u < 65536 → w < 65536 → (upper_word v ≡ u) × (lower_word v ≡ w)
words_of low high v u w e fits U W =
    let back = bits_back u w low high U W (subst (λ (y : Float). Ranges.within low y high ≡ true) e fits) in
    let same : to_bits binary32 v ≡ pattern u w = ap (to_bits binary32) e ∙ back in
    (omega (arith, same), omega (arith, same))

-- a write that completes a value joins it
pub joined_new : (g : List Event) (s : State) (o w k : ℕ) (v : Float) → ((a u : ℕ) → s.table.held ≡ Some (half a u) → HeldFrom g a u) → Completes s o w k v → Joined (more g (write o w (Ok tt))) k v
joined_new g s o w k v held c =
    let e = write o w (Ok tt) in
    let h = held o c.upper c.held in
    record {
      first = h.place;
      second = length g;
      register = h.register;
      upper = c.upper;
      lower = w;
      order = h.within;
      within = omega (arith, more_length g e);
      own_or_group = elim c.place [ inl p ↦ inl (omega (arith, p, h.awaits)) | inr p ↦ inr (omega (arith, p, h.awaits)) ];
      upper_accepted = more_old g e h.place h.within ∙ h.accepted;
      lower_accepted = more_new g e ∙ ap (λ (i : ℕ). write i w (Ok tt)) h.awaits;
      between = λ m after before is. h.latest m after before (subst IsWrite (more_old g e m before) is);
      value = c.value;
      words = words_of Ranges.zero (nominal_voltage s.table.model) v c.upper w c.value c.fits;
    }

-- ---- kills

-- the channel was killed at place i: it is down, or it is only off since a doCLEAR, or it was restored
pub data Down (g : List Event) (i k : ℕ) (c : Channel) (level : ℕ) : Type 0 where
  down : c.kill ≡ true → c.on ≡ false → level ≡ 0 → Down g i k c level
  cleared : (j : ℕ) → i < j → j < length g → Clears (get_or g j no_event) → c.on ≡ false → level ≡ 0 → Down g i k c level
  restored : Restored g i (length g) k → Down g i k c level

restored_more : (g : List Event) (e : Event) (i k : ℕ) → Restored g i (length g) k → Restored (more g e) i (length (more g e)) k
restored_more g e i k r = record {
  cleared = r.cleared;
  switched = r.switched;
  since = r.since;
  then = r.then;
  before = omega (arith, r.before, more_length g e);
  clears = subst Clears (sym (more_old g e r.cleared (omega (arith, r.then, r.before)))) r.clears;
  switches = subst (λ (x : Event). SwitchesOn x k) (sym (more_old g e r.switched r.before)) r.switches;
}

-- an event that leaves the channel off, its level at 0 and its kill stored
pub stays_down : (g : List Event) (e : Event) (i k : ℕ) (c c' : Channel) (l l' : ℕ)
    → (c.kill ≡ true → c'.kill ≡ true) → (c.on ≡ false → c'.on ≡ false) → (c.on ≡ false → l ≡ 0 → l' ≡ 0) → Down g i k c l → Down (more g e) i k c' l'
stays_down g e i k c c' l l' kill off low (down a b z) = down (kill a) (off b) (low b z)
stays_down g e i k c c' l l' kill off low (cleared j since before clear b z) =
    cleared j since (omega (arith, before, more_length g e)) (subst Clears (sym (more_old g e j before)) clear) (off b) (low b z)
stays_down g e i k c c' l l' kill off low (restored r) = restored (restored_more g e i k r)

-- a write
pub wrote_down : (g : List Event) (s : State) (o w i k : ℕ) (r : Result (Unit {0}) ModuleFault) (c c' : Channel) (l l' : ℕ)
    → i < length g → l' ≤ l → Wrote s o w k r c c' → Down g i k c l → Down (more g (write o w r)) i k c' l'
wrote_down g s o w i k r c c' l l' old falls h (down a b z) =
    elim (h.switch b) [
      | inr sw ↦ absurd (both_ways c.kill sw.0 a)
      | inl off ↦ elim h.kill [
        | inl same ↦ down (same ∙ a) off (omega arith)
        | inr clear ↦ cleared (length g) old (omega (arith, more_length g (write o w r))) (subst Clears (sym (more_new g (write o w r))) (record { word = w; accepted = ap (λ (q : ℕ). write q w r) clear.1 ∙ ap (write 0x02 w) clear.0; has_do_clear = clear.2 })) off (omega arith)
      ]
    ]
wrote_down g s o w i k r c c' l l' old falls h (cleared j since before clear b z) =
    elim (h.switch b) [
      | inl off ↦ cleared j since (omega (arith, before, more_length g (write o w r))) (subst Clears (sym (more_old g (write o w r) j before)) clear) off (omega arith)
      | inr sw ↦ restored (record {
        cleared = j;
        switched = length g;
        since = since;
        then = before;
        before = omega (arith, more_length g (write o w r));
        clears = subst Clears (sym (more_old g (write o w r) j before)) clear;
        switches = subst (λ (x : Event). SwitchesOn x k) (sym (more_new g (write o w r))) sw.1;
      })
    ]
wrote_down g s o w i k r c c' l l' old falls h (restored q) = restored (restored_more g (write o w r) i k q)
