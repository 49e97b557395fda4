-- The history of the first calls is a front of the history.
use Rattle.std.proofs.Common.{◌≡◌, ℕ, zero, suc, Bool, List, [], ◌∷◌, ◌++◌, length, take, drop, sym, refl, ap, ◌∙◌, arith}
use Rattle.std.proofs.lemmas.List.{append_assoc, take-append-le, take_all}
use Rattle.values.specs.declared.model.Model.{Model}
use Rattle.module.specs.State.{new_state}
use Rattle.runs.specs.Calls.{Asked, Told, run_told}
use Rattle.runs.specs.History.{Event, happened, history, after}
use Rattle.runs.specs.Law.{Tells}
use Rattle.runs.proofs.Histories.{after_run_take}

history_none : (xs : List Asked) → history xs [] ≡ []
history_none [] = refl
history_none (a ∷ xs) = refl

history_split : (q : ℕ) (xs : List Asked) (ts : List Told) → history xs ts ≡ history (take q xs) (take q ts) ++ history (drop q xs) (drop q ts)
history_split zero xs ts = refl
history_split (suc q) [] ts = refl
history_split (suc q) (a ∷ xs) [] = sym (history_none (drop q xs))
history_split (suc q) (a ∷ xs) (t ∷ ts) =
    ap (λ (h : List Event). happened a t.said ++ h) (history_split q xs ts) ∙ sym (append_assoc (happened a t.said) (history (take q xs) (take q ts)) (history (drop q xs) (drop q ts)))

front_of : (g h : List Event) → take (length g) (g ++ h) ≡ g
front_of g h = take-append-le (length g) g h (omega arith) ∙ take_all (length g) g (omega arith)

pub tells : (b : Bool) (m : Model) (n : ℕ) (xs : List Asked) → Tells b m n xs (run_told b (new_state m n) xs)
tells b m n xs q =
    let ts = run_told b (new_state m n) xs in
    let g = history (take q xs) (take q ts) in
    ap (λ (h : List Event). after b (new_state m n) (take (length g) h)) (history_split q xs ts)
    ∙ ap (after b (new_state m n)) (front_of g (history (drop q xs) (drop q ts)))
    ∙ after_run_take b (new_state m n) q xs
