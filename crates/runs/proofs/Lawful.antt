-- The law over every run: it holds of a new module, and every event keeps it.
use Rattle.std.proofs.Common.{◌≡◌, ℕ, zero, suc, ◌+◌, ◌<◌, ◌≤◌, Bool, true, List, [], ◌∷◌, length, get_or, replicate, Some, None, Option, Ok, Err, Result, sym, refl, ap, ◌∙◌, subst, inl, inr, arith}
use lib.Seq.{take-append-le}
use Rattle.std.proofs.lemmas.List.{take_all, length-replicate}
use Rattle.std.proofs.lemmas.Bool.{cases_lt}
use Rattle.values.specs.declared.model.Model.{Model}
use Rattle.values.specs.Ranges as Ranges
use Rattle.registers.specs.declared.fault.ModuleFault.{ModuleFault}
use Rattle.table.specs.declared.records.Channel.{Channel}
use Rattle.table.specs.declared.records.Conditions.{Conditions}
use Rattle.table.specs.declared.records.Half.{Half}
use Rattle.table.specs.declared.round.Reading.{Reading}
use Rattle.table.specs.New.{new_channel}
use Rattle.table.specs.Parts.{half}
use Rattle.table.specs.Reads.{channel_of, no_channel}
use Rattle.table.specs.Round.{excess_of}
use Rattle.table.specs.Writes.{written_answer}
use Rattle.module.specs.State.{State, count, level_of, new_state, write_state, write_answer}
use Rattle.module.specs.Rounds.{reading_of, round_pass, round_state, round_answer}
use Rattle.module.specs.WriteLaws.{Whole}
use Rattle.module.proofs.WriteLawsOthers.{count_after}
use Rattle.module.proofs.WriteLawsWhole.{stays_whole}
use Rattle.runs.specs.History.{Event, read, write, round, event_state, after}
use Rattle.runs.specs.Law.{no_event, voltage_set, IsWrite, Joined, FromHalves, limit_after, latest_limit, Kills, over_any, Gathered, state_at}
use Rattle.runs.proofs.Gathering.{new_gathered, wrote_gathered, round_gathered}
use Rattle.runs.proofs.Histories.{EventTrue}
use Rattle.runs.proofs.Keeping.{more, more_length, more_old, more_new, limit_more, HeldFrom, held_more, held_new, halves_more, joined_new, Down, down, stays_down, wrote_down}
use Rattle.runs.proofs.Wrote.{Wrote, wrote, wrote_held, level_falls}
use Rattle.runs.proofs.Rounded.{round_refused, round_each, round_held, round_count, round_whole, round_limited, round_voltage, round_kill, round_off, round_down, round_kills}

no_half : (x : Option Half) (a u : ℕ) → x ≡ None → x ≡ Some (half a u) → ⊥
no_half x a u p q = let z : ◌≡◌ {A = ℕ} 0 1 = cc in omega arith

one_half : (x : Option Half) (a u c d : ℕ) → x ≡ Some (half a u) → x ≡ Some (half c d) → (a ≡ c) × (u ≡ d)
one_half x a u c d p q = let e : half a u ≡ half c d = cc in (ap (λ (h : Half). h.awaited) e, ap (λ (h : Half). h.word) e)

module _ (b : Bool) (m : Model) (n : ℕ) where
  -- what holds after the history g in the state s
  pub record Inv (g : List Event) (s : State) : Type 0 where
    pub whole : Whole s
    pub counted : count s ≡ n
    pub gathered : Gathered s
    pub held : (a u : ℕ) → s.table.held ≡ Some (half a u) → HeldFrom g a u
    pub values : (k : ℕ) → k < n → FromHalves g k (voltage_set s k)
    pub limited : (k : ℕ) → level_of s k ≤ latest_limit 0 g
    pub killed : (i k : ℕ) → i < length g → k < n → Kills b (state_at b m n g i) (get_or g i no_event) k → Down g i k (channel_of s.table k) (level_of s k)

  -- ---- a new module

  level_new : (k : ℕ) → level_of (new_state m n) k ≡ 0
  level_new k = zeros n k
    where
      zeros : (j i : ℕ) → ◌≡◌ {A = ℕ} (get_or (replicate j 0) i 0) 0
      zeros zero i = refl
      zeros (suc j) zero = refl
      zeros (suc j) (suc i) = zeros j i

  value_new : (k : ℕ) → k < 12 → voltage_set (new_state m n) k ≡ Ranges.zero
  value_new k h = ap (λ (c : Channel). c.setpoint.voltage) (same 12 k h)
    where
      same : (j i : ℕ) → i < j → get_or (replicate j (new_channel m)) i no_channel ≡ new_channel m
      same zero i low = absurd (omega arith)
      same (suc j) zero low = refl
      same (suc j) (suc i) low = same j i (omega arith)

  pub start : n ≤ 12 → Inv [] (new_state m n)
  start few = record {
    whole = stays_whole.new m n few;
    counted = length-replicate {A = ℕ} n 0;
    gathered = new_gathered m n;
    held = λ a u e. let z : ◌≡◌ {A = ℕ} 0 1 = cc in absurd (omega arith);
    values = λ k h. inl (value_new k (omega arith));
    limited = λ k. omega (arith, level_new k);
    killed = λ i k h low kills. absurd (omega arith);
  }

  -- ---- one event more

  module _ (g : List Event) (s : State) (inv : Inv g s) (is : s ≡ after b (new_state m n) g) where
    -- the state and the event at a place that was there before, and at the new place
    state_old : (e : Event) (i : ℕ) → i ≤ length g → state_at b m n (more g e) i ≡ state_at b m n g i
    state_old e i h = ap (after b (new_state m n)) (take-append-le i g (e ∷ []) h)

    state_new : (e : Event) → state_at b m n (more g e) (length g) ≡ s
    state_new e = state_old e (length g) (omega arith) ∙ ap (after b (new_state m n)) (take_all (length g) g (omega arith)) ∙ sym is

    module _ (e : Event) (u : State)
        (old-down : (i k : ℕ) → i < length g → k < n → Down g i k (channel_of s.table k) (level_of s k) → Down (more g e) i k (channel_of u.table k) (level_of u k))
        (new-down : (k : ℕ) → k < n → Kills b s e k → Down (more g e) (length g) k (channel_of u.table k) (level_of u k)) where
      killed_more : (i k : ℕ) → i < length (more g e) → k < n → Kills b (state_at b m n (more g e) i) (get_or (more g e) i no_event) k → Down (more g e) i k (channel_of u.table k) (level_of u k)
      killed_more i k h low kills = elim (cases_lt i (length g)) [
        | inl old ↦
            old-down i k old low (inv.killed i k old low
            (subst (λ (x : State). Kills b x (get_or g i no_event) k) (state_old e i (omega arith)) (subst (λ (x : Event). Kills b (state_at b m n (more g e) i) x k) (more_old g e i old) kills)))
        | inr high ↦
            let at : i ≡ length g = omega (arith, more_length g e) in
            let here : Kills b (state_at b m n (more g e) (length g)) (get_or (more g e) (length g) no_event) k = subst (λ (j : ℕ). Kills b (state_at b m n (more g e) j) (get_or (more g e) j no_event) k) at kills in
            subst (λ (j : ℕ). Down (more g e) j k (channel_of u.table k) (level_of u k)) (sym at)
            (new-down k low (subst (λ (x : State). Kills b x e k) (state_new e) (subst (λ (x : Event). Kills b (state_at b m n (more g e) (length g)) x k) (more_new g e) here)))
      ]

    -- an event that is no write and leaves the state
    quiet : (e : Event) → (IsWrite e → ⊥) → ((k : ℕ) → Kills b s e k → ⊥) → limit_after (latest_limit 0 g) e ≡ latest_limit 0 g → Inv (more g e) s
    quiet e no_write no_kill same = record {
      whole = inv.whole;
      counted = inv.counted;
      gathered = inv.gathered;
      held = λ a u h. held_more g e a u no_write (inv.held a u h);
      values = λ k h. halves_more g e k _ (inv.values k h);
      limited = λ k. omega (arith, inv.limited k, limit_more 0 g e, same);
      killed = killed_more e s (λ i k h low d. stays_down g e i k _ _ _ _ (λ x. x) (λ x. x) (λ x z. z) d) (λ k low kills. absurd (no_kill k kills));
    }

    -- no read and no write kills

    no_kill_read : (o : ℕ) (r : Result ℕ ModuleFault) (k : ℕ) → Kills b s (read o r) k → ⊥
    no_kill_read o r k kills = let q = kills.accepted_round in let z : ◌≡◌ {A = ℕ} 0 1 = cc in omega arith

    no_kill_write : (o w : ℕ) (r : Result (Unit {0}) ModuleFault) (k : ℕ) → Kills b s (write o w r) k → ⊥
    no_kill_write o w r k kills = let q = kills.accepted_round in let z : ◌≡◌ {A = ℕ} 0 1 = cc in omega arith

    no_kill_refused : (x : Conditions) (rs : List Reading) (f : ModuleFault) (k : ℕ) → Kills b s (round x rs (Err f)) k → ⊥
    no_kill_refused x rs f k kills = let q = kills.accepted_round in let z : ◌≡◌ {A = ℕ} 0 1 = cc in omega arith

    -- a write
    by_write : (o w : ℕ) (r : Result (Unit {0}) ModuleFault) → r ≡ write_answer s o w → Inv (more g (write o w r)) (write_state s o w)
    by_write o w r said = record {
      whole = stays_whole.written s o w inv.whole;
      counted = count_after s o w ∙ inv.counted;
      gathered = wrote_gathered s o w;
      held = λ a u h. elim (wrote_held s o w) [
        | inl none ↦ absurd (no_half (write_state s o w).table.held a u none h)
        | inr holds ↦
            let same = one_half (write_state s o w).table.held (o + 2) w a u holds.0 h in
            subst (λ (q : Result (Unit {0}) ModuleFault). HeldFrom (more g (write o w q)) a u) (sym (said ∙ holds.1))
            (subst (λ (j : ℕ). HeldFrom (more g (write o w (Ok tt))) j u) same.0 (subst (HeldFrom (more g (write o w (Ok tt))) (o + 2)) same.1 (held_new g o w)))
      ];
      values = λ k h. elim (wrote s inv.whole o w k (omega (arith, inv.counted))).voltage [
        | inl same ↦ subst (FromHalves (more g (write o w r)) k) (sym same) (halves_more g (write o w r) k _ (inv.values k h))
        | inr new ↦ inr (subst (λ (q : Result (Unit {0}) ModuleFault). Joined (more g (write o w q)) k (voltage_set (write_state s o w) k)) (sym (said ∙ new.0)) (joined_new g s o w k _ inv.held new.1))
      ];
      limited = λ k. omega (arith, inv.limited k, limit_more 0 g (write o w r), level_falls s.levels (written_answer (count s) s.table o w) k);
      killed = killed_more (write o w r) (write_state s o w)
          (λ i k h low d. wrote_down g s o w i k r _ _ _ _ h (level_falls s.levels (written_answer (count s) s.table o w) k) (subst (λ (q : Result (Unit {0}) ModuleFault). Wrote s o w k q (channel_of s.table k) (channel_of (write_state s o w).table k)) (sym said) (wrote s inv.whole o w k (omega (arith, inv.counted)))) d)
          (λ k low kills. absurd (no_kill_write o w r k kills));
    }

    -- a refused round
    by_refused : (x : Conditions) (rs : List Reading) (f : ModuleFault) → Err f ≡ round_answer s rs → Inv (more g (round x rs (Err f))) (round_state b s x rs)
    by_refused x rs f said = subst (Inv (more g (round x rs (Err f)))) (sym (round_refused b s x rs f said)) (quiet (round x rs (Err f)) (λ z. z) (no_kill_refused x rs f) refl)

    -- an accepted round
    module _ (x : Conditions) (rs : List Reading) (each : length rs ≡ count s) where
      abbrev e : Event
      e = round x rs (Ok tt)

      abbrev t : State
      t = round_state b s x rs

      kills_now : (k : ℕ) → k < n → Kills b s e k → Down (more g e) (length g) k (channel_of t.table k) (level_of t k)
      kills_now k low kills =
          let q = kills.accepted_round in
          let same_x : kills.conditions ≡ x = cc in
          let same_rs : kills.readings ≡ rs = cc in
          let over = subst (λ (y : Conditions). over_any (excess_of (round_pass b s y) (channel_of s.table k) (reading_of rs k)) ≡ true) same_x
          (subst (λ (ys : List Reading). over_any (excess_of (round_pass b s kills.conditions) (channel_of s.table k) (reading_of ys k)) ≡ true) same_rs kills.over) in
          let dead = round_kills b s x rs each inv.whole k (omega (arith, inv.counted)) kills.kill_enable over in
          down dead.stored dead.is_off dead.at_zero

      by_accepted : Inv (more g e) t
      by_accepted = record {
        whole = round_whole b s x rs each inv.whole;
        counted = round_count b s x rs each ∙ inv.counted;
        gathered = round_gathered b s x rs each;
        held = λ a u h. held_more g e a u (λ z. z) (inv.held a u (sym (round_held b s x rs each) ∙ h));
        values = λ k h. elim (round_voltage b s x rs each inv.whole k (omega (arith, inv.counted))) [
          | inl same ↦ subst (FromHalves (more g e) k) (sym same) (halves_more g e k _ (inv.values k h))
          | inr none ↦ inl none
        ];
        limited = λ k. omega (arith, round_limited b s x rs each k, limit_more 0 g e);
        killed = killed_more e t
            (λ i k h low d. stays_down g e i k _ _ _ _ (round_kill b s x rs each inv.whole k (omega (arith, inv.counted))) (round_off b s x rs each inv.whole k (omega (arith, inv.counted))) (round_down b s x rs each inv.whole k (omega (arith, inv.counted))) d)
            kills_now;
      }

    pub keep : (x : Event) → EventTrue s x → Inv (more g x) (event_state b s x)
    keep (read o r) said = quiet (read o r) (λ z. z) (no_kill_read o r) refl
    keep (write o w r) said = by_write o w r said
    keep (round x rs (Ok tt)) said = by_accepted x rs (round_each b s x rs tt said)
    keep (round x rs (Err f)) said = by_refused x rs f said
