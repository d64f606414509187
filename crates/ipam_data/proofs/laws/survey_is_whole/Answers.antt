use Rattle.ipam_data.proofs.SurveyWhole.{whole}
use Rattle.ipam_data.proofs.laws.survey_is_whole.Goals as goal

pub returns : goal.returns
returns c = whole
