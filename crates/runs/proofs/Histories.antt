-- A history tells the states of a run: each answer in it is what the rules answer there, and the rules lead along it.
use Rattle.std.proofs.Common.{◌≡◌, ℕ, zero, suc, ◌+◌, ◌-◌, ◌<◌, ◌≤◌, Bool, List, [], ◌∷◌, ◌++◌, length, get_or, take, drop, Ok, Err, Result, refl, ap, ◌∙◌, arith}
use Rattle.std.proofs.lemmas.List.{take-append-drop, take_more, drop_more}
use Rattle.registers.specs.declared.fault.ModuleFault.{ModuleFault}
use Rattle.module.specs.declared.block.Access.{Access}
use Rattle.module.specs.declared.block.Kind.{Kind}
use Rattle.module.specs.declared.block.Kind.TheVariants.{Read, Write}
use Rattle.module.specs.State.{State, word_answer, write_state, write_answer}
use Rattle.module.specs.Rounds.{round_answer}
use Rattle.module.specs.Blocks.{BlockEnd, access_state, access_answer, read_done, write_done, goes_on, block_end}
use Rattle.runs.specs.Calls.{Asked, reads, writes, blocks, rounds, Told, call_state, call_said, call_told, run_state, run_told}
use Rattle.runs.specs.History.{Event, read, write, round, block_history, done_in, fault_in, happened, history, event_state, after}

-- the answer in an event is what the rules answer in the state s
abbrev pub EventTrue : State → Event → Type 0
EventTrue s (read o r) = r ≡ word_answer s o
EventTrue s (write o w r) = r ≡ write_answer s o w
EventTrue s (round x rs r) = r ≡ round_answer s rs

-- so is each answer of a history that begins in the state s
abbrev pub Truthful : Bool → State → List Event → Type 0
Truthful b s [] = Unit {0}
Truthful b s (e ∷ h) = EventTrue s e × Truthful b (event_state b s e) h

-- ---- one history behind another

pub after_append : (b : Bool) (s : State) (g h : List Event) → after b s (g ++ h) ≡ after b (after b s g) h
after_append b s [] h = refl
after_append b s (e ∷ g) h = after_append b (event_state b s e) g h

pub true_append : (b : Bool) (s : State) (g h : List Event) → Truthful b s g → Truthful b (after b s g) h → Truthful b s (g ++ h)
true_append b s [] h p q = q
true_append b s (e ∷ g) h p q = (p.0, true_append b (event_state b s e) g h p.1 q)

pub true_front : (b : Bool) (s : State) (g h : List Event) → Truthful b s (g ++ h) → Truthful b s g
true_front b s [] h p = tt
true_front b s (e ∷ g) h p = (p.0, true_front b (event_state b s e) g h p.1)

pub true_back : (b : Bool) (s : State) (g h : List Event) → Truthful b s (g ++ h) → Truthful b (after b s g) h
true_back b s [] h p = p
true_back b s (e ∷ g) h p = true_back b (event_state b s e) g h p.1

-- the history h is true from the state s, and leads to t
pub record Leads (b : Bool) (s : State) (h : List Event) (t : State) : Type 0 where
  pub truth : Truthful b s h
  pub arrives : after b s h ≡ t

leads_on : (b : Bool) (s : State) (g : List Event) (t : State) (h : List Event) (u : State) → Leads b s g t → Leads b t h u → Leads b s (g ++ h) u
leads_on b s g t h u p q = record {
  truth = true_append b s g h p.truth (rw p.arrives q.truth);
  arrives = after_append b s g h ∙ rw p.arrives q.arrives;
}

-- ---- a block

-- the events of a block that ended as e, from index i on
abbrev pub events_from : ℕ → List Access → BlockEnd → List Event
events_from i xs e = block_history (done_in e.answer - i) (fault_in e.answer) xs e.records

pub block_far : (i : ℕ) (s : State) (xs : List Access) → i ≤ done_in (block_end i s xs).answer
block_far i s [] = omega arith
block_far i s (a ∷ xs) =
    let more = block_far (i + 1) (access_state s a) xs in
    elim (access_answer s a) as (λ u. i ≤ done_in (goes_on i (access_state s a) a xs (block_end (i + 1) (access_state s a) xs) u).answer)
    [ Ok c ↦ omega arith | Err f ↦ omega arith ]

-- the access at index i, and the rest that ends as e
module _ (b : Bool) (i : ℕ) (s : State) (o w : ℕ) (xs : List Access) (e : BlockEnd) (far : i + 1 ≤ done_in e.answer) where
  one_more : done_in e.answer - i ≡ suc (done_in e.answer - (i + 1))
  one_more = omega arith

  none : i - i ≡ 0
  none = omega arith

  read_leads : Leads b s (events_from (i + 1) xs e) e.state
      → (r : Result ℕ ModuleFault) → r ≡ word_answer s o
      → let a : Access = record { kind = Read; offset = o; word = w } in let u = goes_on i s a xs e (read_done o r) in
      Leads b s (events_from i (a ∷ xs) u) u.state
  read_leads more (Ok v) said = rw one_more (record { truth = (said, more.truth); arrives = more.arrives })
  read_leads more (Err f) said = rw none (record { truth = (said, tt); arrives = refl })

  write_leads : Leads b (write_state s o w) (events_from (i + 1) xs e) e.state
      → (r : Result (Unit {0}) ModuleFault) → r ≡ write_answer s o w
      → let a : Access = record { kind = Write; offset = o; word = w } in let u = goes_on i (write_state s o w) a xs e (write_done a r) in
      Leads b s (events_from i (a ∷ xs) u) u.state
  write_leads more (Ok v) said = rw one_more (record { truth = (said, more.truth); arrives = more.arrives })
  write_leads more (Err f) said = rw none (record { truth = (said, tt); arrives = refl })

access_leads : (b : Bool) (i : ℕ) (s : State) (k : Kind) (o w : ℕ) (xs : List Access)
    → let a : Access = record { kind = k; offset = o; word = w } in
    Leads b (access_state s a) (events_from (i + 1) xs (block_end (i + 1) (access_state s a) xs)) (block_end (i + 1) (access_state s a) xs).state
    → Leads b s (events_from i (a ∷ xs) (block_end i s (a ∷ xs))) (block_end i s (a ∷ xs)).state
access_leads b i s Read o w xs more = read_leads b i s o w xs (block_end (i + 1) s xs) (block_far (i + 1) s xs) more (word_answer s o) refl
access_leads b i s Write o w xs more =
    let t = write_state s o w in
    write_leads b i s o w xs (block_end (i + 1) t xs) (block_far (i + 1) t xs) more (write_answer s o w) refl

pub block_leads : (b : Bool) (i : ℕ) (s : State) (xs : List Access) → Leads b s (events_from i xs (block_end i s xs)) (block_end i s xs).state
block_leads b i s [] =
    let z : i - i ≡ 0 = omega arith in
    rw z (record { truth = tt; arrives = refl })
block_leads b i s (a ∷ xs) = access_leads b i s a.kind a.offset a.word xs (block_leads b (i + 1) (access_state s a) xs)

-- a whole block
pub whole_block_leads : (b : Bool) (s : State) (xs : List Access)
    → let e = block_end 0 s xs in Leads b s (block_history (done_in e.answer) (fault_in e.answer) xs e.records) e.state
whole_block_leads b s xs =
    let n : done_in (block_end 0 s xs).answer - 0 ≡ done_in (block_end 0 s xs).answer = omega arith in
    rw n at (block_leads b 0 s xs)

-- ---- one call, and any list of calls

pub call_leads : (b : Bool) (s : State) (a : Asked) → Leads b s (happened a (call_said s a)) (call_state b s a)
call_leads b s (reads o) = record { truth = (refl, tt); arrives = refl }
call_leads b s (writes o w) = record { truth = (refl, tt); arrives = refl }
call_leads b s (blocks xs) = whole_block_leads b s xs
call_leads b s (rounds x rs) = record { truth = (refl, tt); arrives = refl }

pub run_leads : (b : Bool) (s : State) (xs : List Asked) → Leads b s (history xs (run_told b s xs)) (run_state b s xs)
run_leads b s [] = record { truth = tt; arrives = refl }
run_leads b s (a ∷ xs) =
    let t = call_state b s a in
    leads_on b s (happened a (call_said s a)) t (history xs (run_told b t xs)) (run_state b t xs) (call_leads b s a) (run_leads b t xs)

pub after_run : (b : Bool) (s : State) (xs : List Asked) → after b s (history xs (run_told b s xs)) ≡ run_state b s xs
after_run b s xs = (run_leads b s xs).arrives

pub run_true : (b : Bool) (s : State) (xs : List Asked) → Truthful b s (history xs (run_told b s xs))
run_true b s xs = (run_leads b s xs).truth

-- ---- the first calls

pub told_take : (b : Bool) (s : State) (q : ℕ) (xs : List Asked) → take q (run_told b s xs) ≡ run_told b s (take q xs)
told_take b s zero xs = refl
told_take b s (suc q) [] = refl
told_take b s (suc q) (a ∷ xs) = ap {B = List Told} (λ ts. call_told b s a ∷ ts) (told_take b (call_state b s a) q xs)

pub history_take : (b : Bool) (s : State) (q : ℕ) (xs : List Asked)
    → history (take q xs) (take q (run_told b s xs)) ≡ history (take q xs) (run_told b s (take q xs))
history_take b s q xs = ap (history (take q xs)) (told_take b s q xs)

pub after_run_take : (b : Bool) (s : State) (q : ℕ) (xs : List Asked)
    → after b s (history (take q xs) (take q (run_told b s xs))) ≡ run_state b s (take q xs)
after_run_take b s q xs = ap (after b s) (history_take b s q xs) ∙ after_run b s (take q xs)

-- ---- the first events

pub true_take : (b : Bool) (s : State) (p : ℕ) (h : List Event) → Truthful b s h → Truthful b s (take p h)
true_take b s p h t = true_front b s (take p h) (drop p h) (rw take-append-drop t)

pub after_more : (b : Bool) (s : State) (h : List Event) (p : ℕ) (d : Event) → p < length h
    → after b s (take (p + 1) h) ≡ event_state b (after b s (take p h)) (get_or h p d)
after_more b s h p d lt = ap (after b s) (take_more h p d lt) ∙ after_append b s (take p h) (get_or h p d ∷ [])

pub event_true : (b : Bool) (s : State) (h : List Event) (p : ℕ) (d : Event) → p < length h → Truthful b s h
    → EventTrue (after b s (take p h)) (get_or h p d)
event_true b s h p d lt t =
    let whole : Truthful b s (take p h ++ drop p h) = rw take-append-drop t in
    let rest = true_back b s (take p h) (drop p h) whole in
    (rw (drop_more h p d lt) at rest).0
