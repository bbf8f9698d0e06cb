use Rattle.rep_site.specs.Reading.{IsSiteText}
use Rattle.rep_site.specs.declared.site.Site.{Site}
use Rattle.rep_world.specs.World.{World}
use Rattle.rep_world.specs.Events.{IsNewWorld}
use Rattle.rep_drill.specs.Playing.{sample_text}
use Rattle.rep_drill.proofs.NextLine.{if_ok}
use Rattle.rep_drill.proofs.playing.sample_world.Goals as goal

pub returns-in-Ok : goal.returns-in-Ok
unfolding sample_text
returns-in-Ok c =
    if_ok (IsNewWorld c.in-Ok.site) (λ (w : World). (site : Site) × IsSiteText sample_text site × IsNewWorld site w) c.new.result
    (λ w is. (c.in-Ok.site, c.in-Ok.ensures.ok, is)) c.new.ensures.made
