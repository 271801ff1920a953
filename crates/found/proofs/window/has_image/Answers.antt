-- `window::has_image` meets its contract: where the window is carried, the symbol's image says it (`image_carried`), and
-- otherwise every cell is asked.
-- Assumes nothing.
use Rattle.pairs.specs.Pairs.{found_at, image_carried, image_inside}
use Rattle.found.proofs.window.has_image.Goals as goal

pub image-requires : goal.image-requires
image-requires c = image_inside c.args.w.images _ c.requires

pub returns-then-w : goal.returns-then-w
returns-then-w c = image_carried _ _ _ _ _ _ c.args.a c.args.b _ (found_at c.args.w) c.if-w.true c.requires c.image.ensures
