-- What is listed of a run.
use Rattle.std.specs.Prelude.{ℕ, Bool, true, false, List, is_ok, vec_len}
use Rattle.std.specs.List.{count_by}
use Rattle.runs.specs.declared.call.Call.{Call}
use Rattle.runs.specs.declared.call.Call.TheVariants as call
use Rattle.runs.specs.declared.call.Reply.{Reply}
use Rattle.runs.specs.Calls.{Said, word, written, ended, turned, said_by}
use Rattle.script.specs.declared.command.StageKind.{StageKind}
use Rattle.script.specs.declared.command.StageKind.TheVariants.{Direct, Distributor}
use Rattle.script.specs.declared.listing.Echo.{Echo}
use Rattle.script.specs.declared.listing.Echo.TheVariants as echo

abbrev pub echo_of : Call → Echo
echo_of (call.Read o) = echo.Read o
echo_of (call.Write o w) = echo.Write o w
echo_of (call.Block xs) = echo.Block
echo_of (call.Round c rs) = echo.Round (vec_len rs)

-- whether stages of the kind regulate current
abbrev pub regulates : StageKind → Bool
regulates Direct = true
regulates Distributor = false

abbrev pub done_by : Said → Bool
done_by (word r) = is_ok r
done_by (written r) = is_ok r
done_by (ended e xs) = is_ok e
done_by (turned r) = is_ok r

abbrev pub done_count : List Reply → ℕ
done_count rs = count_by (λ r. done_by (said_by r.answer)) rs
