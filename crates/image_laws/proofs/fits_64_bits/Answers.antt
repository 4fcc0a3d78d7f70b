use Rattle.image_laws.proofs.Widths.{fits_64_bits}
use Rattle.image_laws.proofs.fits_64_bits.Goals as goal

pub returns : goal.returns
returns c = fits_64_bits c.args.image.now c.words_fit.ensures
