use Rattle.module.proofs.WriteLawsHalves.{half_alone, held_after}
use Rattle.module.proofs.WriteLawsOthers.{others_untouched}
use Rattle.module.proofs.WriteLawsRefusals.{refused_changes_nothing}
use Rattle.module.proofs.WriteLawsValues.{read_back}
use Rattle.module.proofs.WriteLawsSwitching.{switch_refused_lem}
use Rattle.module.proofs.WriteLawsWhole.{stays_whole}
use Rattle.module.proofs.laws.write_laws.Goals as goal

pub returns : goal.returns
returns c = record { whole = stays_whole; half = half_alone; held = held_after; back = read_back; refused = refused_changes_nothing; others = others_untouched; switching = switch_refused_lem }
