-- What a write of the word w at the offset o does to the table of a module of n channels, and what it answers.
use Rattle.std.specs.Prelude.{ℕ, ◌+◌, ◌*◌, cond, List, [], ◌∷◌, Some, None, Ok, Err, Option, Result, ◌==◌, bit_or}
use Rattle.registers.specs.declared.fault.ModuleFault.{ModuleFault}
use Rattle.registers.specs.declared.place.Place.{Place}
use Rattle.registers.specs.declared.place.Place.TheVariants as place
use Rattle.registers.specs.Faults.{refusal_3, refusal_4}
use Rattle.registers.specs.Map.{located}
use Rattle.registers.specs.Rights.{writable}
use Rattle.table.specs.declared.records.Channel.{Channel}
use Rattle.table.specs.declared.records.Half.{Half}
use Rattle.table.specs.declared.records.Table.{Table}
use Rattle.table.specs.declared.order.Order.{Order}
use Rattle.table.specs.declared.carrying.Drive.{Drive}
use Rattle.table.specs.declared.carrying.Drive.TheVariants as drive
use Rattle.table.specs.declared.writing.Request.{Request}
use Rattle.table.specs.declared.writing.Request.TheVariants as request
use Rattle.table.specs.Changes.{event_passes}
use Rattle.table.specs.Carrying.{carried, carried_answer}
use Rattle.table.specs.Orders.{word_order, value_order}
use Rattle.table.specs.Parts.{half, with_held, with_channel_events}
use Rattle.table.specs.Reads.{placed}
use Rattle.table.specs.Words.{bit}

-- bit k: channel k has an event that passes its mask
abbrev pub passing : List Channel → ℕ
passing [] = 0
passing (c ∷ cs) = passing cs * 2 + bit 1 (event_passes c)

-- after each access, 08 gains the bits of the channels that have an event that passes its mask
abbrev pub collected : ℕ → Table → Table
collected n t = with_channel_events t (bit_or t.channel_events (passing (placed n t)))

abbrev pub carries : ℕ → Option Order → Result Request ModuleFault
carries o None = Err (refusal_3 o)
carries o (Some x) = Ok (request.Carry x)

-- a lower half completes the value if its own upper half is held
abbrev pub completes : Option Half → ℕ → (ℕ → Option Order) → Result Request ModuleFault
completes None o x = Err (refusal_4 o)
completes (Some h) o x = cond (h.awaited == o) (carries o (x h.word)) (Err (refusal_4 o))

-- what a write asks for depends on the held half and the place together
abbrev pub request_at : Option Half → Place → ℕ → ℕ → Result Request ModuleFault
request_at h (place.Word r) o w = carries o (word_order r w)
request_at h (place.Upper r) o w = Ok (request.Hold (half (o + 2) w))
request_at h (place.Lower r) o w = completes h o (λ u. value_order r u w)

abbrev pub request_in : Option Half → Result Place ModuleFault → ℕ → ℕ → Result Request ModuleFault
request_in h (Ok p) o w = cond (writable p) (request_at h p o w) (Err (refusal_3 o))
request_in h (Err f) o w = Err f

abbrev pub requested : ℕ → Table → ℕ → ℕ → Result Request ModuleFault
requested n t o w = request_in t.held (located n o) o w

-- every write but an accepted upper half leaves nothing held
abbrev pub released : Table → Table
released t = with_held t None

abbrev pub served : ℕ → Table → Result Request ModuleFault → Table
served n t (Ok (request.Hold h)) = with_held t (Some h)
served n t (Ok (request.Carry x)) = carried n (released t) x
served n t (Err f) = released t

abbrev pub served_answer : ℕ → Table → ℕ → Result Request ModuleFault → Result Drive ModuleFault
served_answer n t o (Ok (request.Hold h)) = Ok drive.Nothing
served_answer n t o (Ok (request.Carry x)) = carried_answer n (released t) x o
served_answer n t o (Err f) = Err f

abbrev pub written_table : ℕ → Table → ℕ → ℕ → Table
written_table n t o w = collected n (served n t (requested n t o w))

abbrev pub written_answer : ℕ → Table → ℕ → ℕ → Result Drive ModuleFault
written_answer n t o w = served_answer n t o (requested n t o w)
