-- For the proofs.
-- What a scrub says.
use Rattle.std.specs.Prelude.{ℕ, List, [], ◌++◌, codes, decimal}
use Rattle.alm_serve.specs.declared.found.Found.{Found}
use Rattle.alm_serve.specs.declared.found.Found.TheVariants.{Whole, Damaged, Unformatted, Unreadable, Older, Nothing}

-- the line for what was found
abbrev pub found_line : Found → List ℕ
found_line Whole = codes "scrub healed\n"
found_line (Damaged half at) = codes "scrub damaged " ++ decimal half ++ (codes " " ++ (decimal at ++ codes "\n"))
found_line Unformatted = codes "scrub unformatted\n"
found_line Unreadable = codes "scrub disk\n"
found_line (Older count) = codes "scrub older " ++ decimal count ++ codes "\n"
found_line Nothing = []
