use Rattle.rep_site.proofs.SiteLemmas.{sound-said, said-sound}
use Rattle.rep_site.proofs.laws.sound_keys_say_a_site.Goals as goal

pub returns : goal.returns
returns c = record { sound = sound-said; said = said-sound }
