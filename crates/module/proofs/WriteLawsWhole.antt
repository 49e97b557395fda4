-- A module stays whole.
use Rattle.std.proofs.Common.{◌≡◌, ℕ, length, Ok, Err, Result, refl, ◌∙◌, arith}
use Rattle.std.proofs.lemmas.List.{length-replicate}
use Rattle.registers.specs.declared.fault.ModuleFault.{ModuleFault}
use Rattle.table.specs.declared.writing.Request.{Request}
use Rattle.table.specs.declared.writing.Request.TheVariants as request
use Rattle.table.specs.Writes.{released}
use Rattle.module.specs.State.{State, count}
use Rattle.module.specs.WriteLaws.{StaysWhole}
use Rattle.module.proofs.WriteLawsHalves.{after}
use Rattle.module.proofs.WriteLawsOrders.{carried_within}
use Rattle.module.proofs.WriteLawsOthers.{count_after}
use Rattle.module.proofs.WriteLawsRequests.{asked}

after_length : (s : State) (o w : ℕ) (q : Result Request ModuleFault) → length (after s o w q).table.channels ≡ length s.table.channels
after_length s o w (Ok (request.Hold u)) = refl
after_length s o w (Ok (request.Carry x)) = (carried_within (count s) (released s.table) x).kept.2
after_length s o w (Err f) = refl

pub stays_whole : StaysWhole
stays_whole = record {
  new = λ m n few. record { few = omega (arith, length-replicate {A = ℕ} n 0); records = refl };
  written = λ s o w h. record { few = omega (arith, count_after s o w, h.few); records = after_length s o w (asked s o w) ∙ h.records };
}
