use Rattle.av_vread.proofs.SoundDesigns.{spelled_sound}
use Rattle.av_vread.proofs.laws.spelled_is_sound.Goals as goal

pub returns : goal.returns
returns c = spelled_sound
