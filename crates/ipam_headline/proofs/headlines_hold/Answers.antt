use Rattle.ipam_headline.proofs.HeadlineLaws.{headlines}
use Rattle.ipam_headline.proofs.headlines_hold.Goals as goal

pub returns : goal.returns
returns c = headlines (record {
  lawful = c.steps_keep_lawful.ensures;
  listed = c.steps_keep_listed.ensures;
  new = c.claims_are_new.ensures;
  space = c.refused_only_if_none_fits.ensures;
  never = c.claims_never_meet.ensures;
  states = c.numbers_are_states.ensures;
})
