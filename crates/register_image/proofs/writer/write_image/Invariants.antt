use Rattle.std.proofs.Common.{◌≡◌, ◌%◌, ◌≤◌}
use Rattle.register_image.specs.Image.{image_word}
use Rattle.register_image.proofs.Bytes.{Filled}
use Rattle.register_image.proofs.writer.write_image.Given as goal

abbrev pub invariant-loop-offset : goal.invariant-loop-offset
invariant-loop-offset g l = (l.offset % 2 ≡ 0) × (l.offset ≤ 1024) × Filled (image_word l.«module») l.offset l.out
