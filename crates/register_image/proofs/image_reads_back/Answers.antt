use Rattle.register_image.proofs.Telling.{tells_image}
use Rattle.register_image.proofs.image_reads_back.Goals as goal

pub returns : goal.returns
returns c = tells_image
