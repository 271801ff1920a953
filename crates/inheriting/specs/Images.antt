-- The images of the pattern's symbols in a window.
-- Assumes nothing.
use Rattle.std.specs.Prelude.{List, ℕ}
use Rattle.inheriting.specs.Offsets.{image_from_behind, ImagesInside}
use Rattle.inheriting.specs.declared.images.Imaged.{Imaged}

-- the image of a symbol
abbrev pub image_in : Imaged → ℕ → ℕ
image_in m = image_from_behind m.compared.window.text.now m.corner m.offsets.now

-- the images of these symbols lie in the text
abbrev pub ImagesIn : Imaged → List ℕ → Type 0
ImagesIn m = ImagesInside m.compared.window.text.now m.corner m.offsets.now
