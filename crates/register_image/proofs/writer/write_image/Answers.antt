use Rattle.std.proofs.Common.{length, arith}
use Rattle.register_image.specs.Image.{image_word}
use Rattle.register_image.proofs.Bytes.{filled_more, sized_ok}
use Rattle.register_image.proofs.Telling.{whole_image, whole_back}
use Rattle.register_image.proofs.writer.write_image.Goals as goal

pub loop-offset-preserved : goal.loop-offset-preserved
loop-offset-preserved g c =
    let n = sized_ok (length c.args.out.now) _ _ c.in_ok-check_length.ensures in
    let o = c.loop-offset.offset in (
      omega arith,
      omega arith,
      filled_more (image_word c.args.«module».now) c.loop-offset.out c.put_word.new.out o c.image_word-word.result c.loop-offset.invariant.0 (omega arith)
          c.image_word-word.ensures c.put_word.ensures c.loop-offset.invariant.2,
    )

pub returns-clause-image : goal.returns-clause-image
returns-clause-image g c =
    let n = sized_ok (length c.args.out.now) _ _ c.in_ok-check_length.ensures in
    whole_image c.args.«module».now c.args.out.now c.loop-offset.out n (omega arith) (λ j h. c.loop-offset.invariant.2 j (omega arith))

pub returns-clause-back : goal.returns-clause-back
returns-clause-back g c long = whole_back c.args.«module».now c.args.out.now c.loop-offset.out long (omega arith) (λ j h. c.loop-offset.invariant.2 j (omega arith))
