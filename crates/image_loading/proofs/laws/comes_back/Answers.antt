use Rattle.image_loading.proofs.ComesBack.{comes_back}
use Rattle.image_loading.proofs.laws.comes_back.Goals as goal

pub returns : goal.returns
returns c = comes_back c.args.image.now c.sections_fit.ensures.well_formed c.sections_fit.ensures.fit
