-- Proved in proofs/Sizes.antt.
use Rattle.zones.proofs.Sizes.{sizes_hold}
use Rattle.zones.proofs.whole.sizes_stand.Goals as goal

pub returns : goal.returns
returns c = sizes_hold
