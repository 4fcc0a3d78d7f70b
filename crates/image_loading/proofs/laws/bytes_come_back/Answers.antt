use Rattle.image_loading.proofs.LoadedImage.{bytes_come_back}
use Rattle.image_loading.proofs.laws.bytes_come_back.Goals as goal

pub returns : goal.returns
returns c = bytes_come_back
