use Rattle.image_laws.proofs.LeadingOn.{code_leads_on, each_is_held, images_have_size}
use Rattle.image_laws.proofs.code_leads_on.Goals as goal

pub returns-clause-leads_on : goal.returns-clause-leads_on
returns-clause-leads_on c = code_leads_on

pub returns-clause-held : goal.returns-clause-held
returns-clause-held c = each_is_held

pub returns-clause-size : goal.returns-clause-size
returns-clause-size c = images_have_size
