-- What the words of a line say.
use Rattle.std.specs.Prelude.{ℕ, Bool, true, false, cond, List, [], length, Some, None, Ok, Err, codes, Option, Result, nat_lt, slice_index_or, Float}
use Rattle.std.specs.Borrow.{Bor}
use Rattle.std.specs.Option.{ok_or}
use Rattle.std.specs.Str.{bytes_eq}
use Rattle.values.specs.declared.model.Model.{Model}
use Rattle.values.specs.Model.{with_volts}
use Rattle.stage.specs.Levels.{taken}
use Rattle.table.specs.Both.{Amounts}
use Rattle.table.specs.declared.records.Conditions.{Conditions}
use Rattle.table.specs.declared.round.Reading.{Reading}
use Rattle.module.specs.declared.block.Access.{Access}
use Rattle.module.specs.declared.block.Kind.TheVariants.{Read, Write}
use Rattle.script.specs.declared.command.Setup.{Setup}
use Rattle.script.specs.declared.fault.Wrong.{Wrong}
use Rattle.script.specs.declared.fault.Wrong.TheVariants.{BadCount, BadInhibit, BadLoop, BadModel, BadNumber, BadOffset, BadStage, BadSupply, BadWord, MissingWord, NotAccess, SurplusWord, UnknownCommand}
use Rattle.script.specs.Numbers.{decimal_number, hex_word, amount_of}
use Rattle.script.specs.declared.command.Command.{Command}
use Rattle.script.specs.declared.command.Command.TheVariants as command
use Rattle.script.specs.declared.command.Keyword.{Keyword}
use Rattle.script.specs.declared.command.Keyword.TheVariants as keyword
use Rattle.script.specs.declared.command.StageKind.{StageKind}
use Rattle.script.specs.declared.command.StageKind.TheVariants.{Direct, Distributor}

-- past the last word
abbrev pub no_word : Bor (List ℕ)
no_word = record { ref_ptr = (0, 0); now = [] }

-- the word at k, counted from 0
abbrev pub word_at : List (Bor (List ℕ)) → ℕ → List ℕ
word_at ws k = (slice_index_or ws k no_word).now

abbrev pub keyword_named : List ℕ → Option Keyword
keyword_named w =
    cond (bytes_eq w (codes "module")) (Some keyword.Module)
    (cond (bytes_eq w (codes "read")) (Some keyword.Read)
    (cond (bytes_eq w (codes "write")) (Some keyword.Write)
    (cond (bytes_eq w (codes "block")) (Some keyword.Block)
    (cond (bytes_eq w (codes "round")) (Some keyword.Round) None))))

abbrev pub stage_name : StageKind → List ℕ
stage_name Direct = codes "direct"
stage_name Distributor = codes "distributor"

abbrev pub stage_named : List ℕ → Option StageKind
stage_named w = cond (bytes_eq w (codes "direct")) (Some Direct) (cond (bytes_eq w (codes "distributor")) (Some Distributor) None)

abbrev pub keyword_read : List ℕ → Result Keyword Wrong
keyword_read w = ok_or (keyword_named w) UnknownCommand

abbrev pub stage_read : List ℕ → Result StageKind Wrong
stage_read w = ok_or (stage_named w) BadStage

-- whether it is the first of two words or the second
abbrev pub choice_of : List ℕ → List ℕ → List ℕ → Option Bool
choice_of first second w = cond (bytes_eq w first) (Some true) (cond (bytes_eq w second) (Some false) None)

-- the model of so many volts
abbrev pub model_of : Option ℕ → Option Model
model_of None = None
model_of (Some v) = with_volts v

abbrev pub setup_by : Option Model → Result StageKind Wrong → Option ℕ → Result Setup Wrong
setup_by None s n = Err BadModel
setup_by (Some m) (Err w) n = Err w
setup_by (Some m) (Ok s) None = Err BadCount
setup_by (Some m) (Ok s) (Some n) = Ok (record { model = m; stage = s; count = taken n })

-- a read's word begins as 0
abbrev pub read_by : Option ℕ → Result Access Wrong
read_by None = Err BadOffset
read_by (Some o) = Ok (record { kind = Read; offset = o; word = 0 })

abbrev pub write_by : Option ℕ → Option ℕ → Result Access Wrong
write_by None w = Err BadOffset
write_by (Some o) None = Err BadWord
write_by (Some o) (Some w) = Ok (record { kind = Write; offset = o; word = w })

-- r where there are n words
abbrev pub fitting : {T : Type 0} → ℕ → List (Bor (List ℕ)) → Result T Wrong → Result T Wrong
fitting n ws r = cond (nat_lt (length ws) n) (Err MissingWord) (cond (nat_lt n (length ws)) (Err SurplusWord) r)

abbrev pub read_line : List (Bor (List ℕ)) → Result Access Wrong
read_line ws = fitting 2 ws (read_by (hex_word (word_at ws 1)))

abbrev pub write_line : List (Bor (List ℕ)) → Result Access Wrong
write_line ws = fitting 3 ws (write_by (hex_word (word_at ws 1)) (hex_word (word_at ws 2)))

abbrev pub access_by : Result Keyword Wrong → List (Bor (List ℕ)) → Result Access Wrong
access_by (Err w) ws = Err NotAccess
access_by (Ok keyword.Module) ws = Err NotAccess
access_by (Ok keyword.Read) ws = read_line ws
access_by (Ok keyword.Write) ws = write_line ws
access_by (Ok keyword.Block) ws = Err NotAccess
access_by (Ok keyword.Round) ws = Err NotAccess

-- a line of a block
abbrev pub access_line : List (Bor (List ℕ)) → Result Access Wrong
access_line ws = access_by (keyword_read (word_at ws 0)) ws

abbrev pub reading_by : Option Float → Option Float → Option Bool → Result Reading Wrong
reading_by None i l = Err BadNumber
reading_by (Some v) None l = Err BadNumber
reading_by (Some v) (Some i) None = Err BadInhibit
reading_by (Some v) (Some i) (Some l) = Ok (record { voltage = v; current = i; inhibit_low = l })

-- a line of a round
abbrev pub reading_line : List (Bor (List ℕ)) → Result Reading Wrong
reading_line ws = fitting 3 ws (reading_by (amount_of (word_at ws 0)) (amount_of (word_at ws 1)) (choice_of (codes "low") (codes "high") (word_at ws 2)))

abbrev pub maxima_by : Option Float → Option Float → Result Amounts Wrong
maxima_by None i = Err BadNumber
maxima_by (Some v) None = Err BadNumber
maxima_by (Some v) (Some i) = Ok (record { voltage = v; current = i })

abbrev pub conditions_by : Option Float → Option Bool → Option Bool → Result Amounts Wrong → Result Conditions Wrong
conditions_by None s l m = Err BadNumber
conditions_by (Some t) None l m = Err BadSupply
conditions_by (Some t) (Some s) None m = Err BadLoop
conditions_by (Some t) (Some s) (Some l) (Err w) = Err w
conditions_by (Some t) (Some s) (Some l) (Ok m) = Ok (record { temperature = t; supply_good = s; loop_closed = l; maxima = m })

abbrev pub round_by : Result Conditions Wrong → Option ℕ → Result Command Wrong
round_by (Err w) n = Err w
round_by (Ok c) None = Err BadCount
round_by (Ok c) (Some n) = Ok (command.Round c n)

abbrev pub round_line : List (Bor (List ℕ)) → Result Command Wrong
round_line ws =
    fitting 7 ws
    (round_by
    (conditions_by (amount_of (word_at ws 1)) (choice_of (codes "good") (codes "bad") (word_at ws 2)) (choice_of (codes "closed") (codes "open") (word_at ws 3))
    (maxima_by (amount_of (word_at ws 4)) (amount_of (word_at ws 5))))
    (decimal_number (word_at ws 6)))

abbrev pub module_by : Result Setup Wrong → Result Command Wrong
module_by (Err w) = Err w
module_by (Ok s) = Ok (command.Module s)

abbrev pub module_line : List (Bor (List ℕ)) → Result Command Wrong
module_line ws = module_by (fitting 4 ws (setup_by (model_of (decimal_number (word_at ws 1))) (stage_read (word_at ws 2)) (decimal_number (word_at ws 3))))

abbrev pub access_command : Result Access Wrong → Result Command Wrong
access_command (Err w) = Err w
access_command (Ok a) = Ok (command.Access a)

abbrev pub block_by : Option ℕ → Result Command Wrong
block_by None = Err BadCount
block_by (Some n) = Ok (command.Block n)

abbrev pub block_line : List (Bor (List ℕ)) → Result Command Wrong
block_line ws = fitting 2 ws (block_by (decimal_number (word_at ws 1)))

abbrev pub command_by : Result Keyword Wrong → List (Bor (List ℕ)) → Result Command Wrong
command_by (Err w) ws = Err w
command_by (Ok keyword.Module) ws = module_line ws
command_by (Ok keyword.Read) ws = access_command (read_line ws)
command_by (Ok keyword.Write) ws = access_command (write_line ws)
command_by (Ok keyword.Block) ws = block_line ws
command_by (Ok keyword.Round) ws = round_line ws

abbrev pub command_line : List (Bor (List ℕ)) → Result Command Wrong
command_line ws = command_by (keyword_read (word_at ws 0)) ws
