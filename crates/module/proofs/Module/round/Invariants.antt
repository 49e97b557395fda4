use Rattle.std.proofs.Common.{◌≡◌, length, drop}
use Rattle.module.specs.Rounds.{stepped_from}
use Rattle.module.proofs.Module.round.Given as goal

abbrev pub invariant-loop-channel : goal.invariant-loop-channel
invariant-loop-channel g l =
    (stepped_from l.pass l.self l.channel (drop l.channel l.readings) ≡ stepped_from l.pass l.initial.self 0 l.readings)
    × (length l.self.levels ≡ length l.readings)
