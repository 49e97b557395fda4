-- The law, at each place of a truthful history.
use Rattle.std.proofs.Common.{◌≡◌, ℕ, ◌+◌, ◌<◌, ◌≤◌, Bool, true, false, ◌⊎◌, List, [], ◌∷◌, ◌++◌, length, get_or, take, Ok, Err, Result, sym, refl, ap, ◌∙◌, subst, inl, inr, arith}
use Rattle.std.proofs.lemmas.List.{append_assoc, append-nil, length-take-le, get_or-take, take-take}
use Rattle.std.proofs.lemmas.Bool.{both_ways, cases_lt}
use Rattle.values.specs.declared.model.Model.{Model}
use Rattle.registers.specs.declared.fault.ModuleFault.{ModuleFault}
use Rattle.table.specs.declared.records.Channel.{Channel}
use Rattle.table.specs.Writes.{written_answer}
use Rattle.module.specs.State.{State, count, level_of, new_state}
use Rattle.module.specs.WriteLaws.{Whole}
use Rattle.runs.specs.History.{Event, read, write, round, event_state, after}
use Rattle.runs.specs.Law.{no_event, kill_of, on_of, Leave, Clears, SwitchesOn, Kills, Restored, state_at, Safe}
use Rattle.runs.proofs.Histories.{EventTrue, Truthful, after_append, after_more, event_true, true_take}
use Rattle.runs.proofs.Keeping.{more, Down, down, cleared, restored}
use Rattle.runs.proofs.Lawful.{Inv, start, keep}
use Rattle.runs.proofs.Rounded.{round_refused, round_each, round_kill, round_off, round_rises, round_absent}
use Rattle.runs.proofs.Wrote.{wrote, level_falls}

module _ (b : Bool) (m : Model) (n : ℕ) where
  -- every truthful history keeps what holds
  all : (h g : List Event) (s : State) → Inv b m n g s → s ≡ after b (new_state m n) g → Truthful b s h → Inv b m n (g ++ h) (after b s h)
  all [] g s inv is said = subst (λ (x : List Event). Inv b m n x s) (sym (append-nil g)) inv
  all (e ∷ h) g s inv is said =
      let next : event_state b s e ≡ after b (new_state m n) (more g e) = ap (λ (x : State). event_state b x e) is ∙ sym (after_append b (new_state m n) g (e ∷ [])) in
      subst (λ (x : List Event). Inv b m n x (after b (event_state b s e) h)) (append_assoc g (e ∷ []) h)
      (all h (more g e) (event_state b s e) (keep b m n g s inv is e said.0) next said.1)

  -- an event that raised a level
  rises : (s : State) → Whole s → (e : Event) → EventTrue s e → (k : ℕ) → level_of s k < level_of (event_state b s e) k → Leave b s e k (level_of (event_state b s e) k)
  rises s whole (read o r) said k up = absurd (omega arith)
  rises s whole (write o w r) said k up = absurd (omega (arith, level_falls s.levels (written_answer (count s) s.table o w) k))
  rises s whole (round x rs (Err f)) said k up = absurd (omega (arith, ap (λ (u : State). level_of u k) (round_refused b s x rs f said)))
  rises s whole (round x rs (Ok tt)) said k up = elim (cases_lt k (count s)) [
    | inl low ↦
        let leave = round_rises b s x rs (round_each b s x rs tt said) whole k low up in
        record { conditions = x; readings = rs; accepted_round = refl; not_blocked = leave.0; by_ramp_step = leave.1 }
    | inr high ↦ absurd (omega (arith, round_absent b s x rs (round_each b s x rs tt said) k high))
  ]

  -- an event that ends a kill is a doCLEAR
  ends : (s : State) → Whole s → (e : Event) → EventTrue s e → (k : ℕ) → k < count s → kill_of s k ≡ true → kill_of (event_state b s e) k ≡ false → Clears e
  ends s whole (read o r) said k low was is = absurd (both_ways (kill_of s k) is was)
  ends s whole (write o w r) said k low was is = elim (wrote s whole o w k low).kill [
    | inl same ↦ absurd (both_ways (kill_of s k) (sym same ∙ is) was)
    | inr clear ↦ record { word = w; accepted = ap (λ (q : ℕ). write q w r) clear.1 ∙ ap (write 0x02 w) (said ∙ clear.0); has_do_clear = clear.2 }
  ]
  ends s whole (round x rs (Err f)) said k low was is = absurd (both_ways (kill_of s k) (sym (ap (λ (u : State). kill_of u k) (round_refused b s x rs f said)) ∙ is) was)
  ends s whole (round x rs (Ok tt)) said k low was is = absurd (both_ways _ is (round_kill b s x rs (round_each b s x rs tt said) whole k low was))

  -- an event that turns a channel on switches it on, and the channel held no kill
  turns : (s : State) → Whole s → (e : Event) → EventTrue s e → (k : ℕ) → k < count s → on_of s k ≡ false → on_of (event_state b s e) k ≡ true → SwitchesOn e k × (kill_of s k ≡ false)
  turns s whole (read o r) said k low was is = absurd (both_ways (on_of s k) was is)
  turns s whole (write o w r) said k low was is = elim ((wrote s whole o w k low).switch was) [
    | inl off ↦ absurd (both_ways _ off is)
    | inr on ↦ (subst (λ (q : Result (Unit {0}) ModuleFault). SwitchesOn (write o w q) k) (sym said) on.1, on.0)
  ]
  turns s whole (round x rs (Err f)) said k low was is = absurd (both_ways (on_of s k) was (sym (ap (λ (u : State). on_of u k) (round_refused b s x rs f said)) ∙ is))
  turns s whole (round x rs (Ok tt)) said k low was is = absurd (both_ways _ (round_off b s x rs (round_each b s x rs tt said) whole k low was) is)

  module _ (few : n ≤ 12) (h : List Event) (said : Truthful b (new_state m n) h) where
    -- what holds after the first p events
    inv_at : (p : ℕ) → Inv b m n (take p h) (state_at b m n h p)
    inv_at p = all (take p h) [] (new_state m n) (start b m n few) refl (true_take b (new_state m n) p h said)

    front : (p i : ℕ) → p ≤ length h → i < p → get_or (take p h) i no_event ≡ get_or h i no_event
    front p i l low = get_or-take p h i no_event low

    restored_in : (i p k : ℕ) → p ≤ length h → Restored (take p h) i (length (take p h)) k → Restored h i p k
    restored_in i p k l r =
        let long = length-take-le p h l in
        record {
          cleared = r.cleared;
          switched = r.switched;
          since = r.since;
          then = r.then;
          before = omega (arith, r.before, long);
          clears = subst Clears (front p r.cleared l (omega (arith, r.then, r.before, long))) r.clears;
          switches = subst (λ (x : Event). SwitchesOn x k) (front p r.switched l (omega (arith, r.before, long))) r.switches;
        }

    stays : (i p k : ℕ) (c : Channel) (level : ℕ) → p ≤ length h → Down (take p h) i k c level → (level ≡ 0) ⊎ Restored h i p k
    stays i p k c level l (down a o z) = inl z
    stays i p k c level l (cleared j since before clear o z) = inl z
    stays i p k c level l (restored r) = inr (restored_in i p k l r)

    killed_at : (i p k : ℕ) → i < p → p ≤ length h → k < n → Kills b (state_at b m n h i) (get_or h i no_event) k → (level_of (state_at b m n h p) k ≡ 0) ⊎ Restored h i p k
    killed_at i p k low l placed kills =
        let same : state_at b m n h i ≡ state_at b m n (take p h) i = ap (after b (new_state m n)) (sym (take-take i p h (omega arith))) in
        let there = subst (λ (x : State). Kills b x (get_or (take p h) i no_event) k) same (subst (λ (x : Event). Kills b (state_at b m n h i) x k) (sym (front p i l low)) kills) in
        stays i p k _ _ l ((inv_at p).killed i k (omega (arith, length-take-le p h l)) placed there)

    raised_at : (p k : ℕ) → p < length h → level_of (state_at b m n h p) k < level_of (state_at b m n h (p + 1)) k → Leave b (state_at b m n h p) (get_or h p no_event) k (level_of (state_at b m n h (p + 1)) k)
    raised_at p k l up =
        let s = state_at b m n h p in
        let next = after_more b (new_state m n) h p no_event l in
        subst (λ (u : State). Leave b s (get_or h p no_event) k (level_of u k)) (sym next)
        (rises s (inv_at p).whole (get_or h p no_event) (event_true b (new_state m n) h p no_event l said) k (subst (λ (u : State). level_of s k < level_of u k) next up))

    -- the state at a place, the event there and the state after it
    kill_ends_at : (p k : ℕ) → p < length h → k < n → kill_of (state_at b m n h p) k ≡ true → kill_of (state_at b m n h (p + 1)) k ≡ false → Clears (get_or h p no_event)
    kill_ends_at p k l low was is =
        let inv = inv_at p in
        ends (state_at b m n h p) inv.whole (get_or h p no_event) (event_true b (new_state m n) h p no_event l said) k (omega (arith, inv.counted)) was
        (subst (λ (u : State). kill_of u k ≡ false) (after_more b (new_state m n) h p no_event l) is)

    turns_on_at : (p k : ℕ) → p < length h → k < n → on_of (state_at b m n h p) k ≡ false → on_of (state_at b m n h (p + 1)) k ≡ true → SwitchesOn (get_or h p no_event) k × (kill_of (state_at b m n h p) k ≡ false)
    turns_on_at p k l low was is =
        let inv = inv_at p in
        turns (state_at b m n h p) inv.whole (get_or h p no_event) (event_true b (new_state m n) h p no_event l said) k (omega (arith, inv.counted)) was
        (subst (λ (u : State). on_of u k ≡ true) (after_more b (new_state m n) h p no_event l) is)

    pub safe : Safe b m n h
    safe = record {
      values = λ p k l low. (inv_at p).values k low;
      limited = λ p k l. (inv_at p).limited k;
      raised = raised_at;
      killed = killed_at;
      kill_ends = kill_ends_at;
      turns_on = turns_on_at;
      gathered = λ p l. (inv_at p).gathered;
    }
