-- For the proofs.
-- Parts of a reply.
use Rattle.std.specs.Prelude.{ℕ, List, decimal}
use Rattle.std.specs.Fmt.{signed_decimal}
use Rattle.std.specs.List.{flat_map}
use Rattle.alm_lines.specs.declared.part.Part.{Part}
use Rattle.alm_lines.specs.declared.part.Part.TheVariants.{Word, Bytes, Number, Signed}

-- the text of a part
abbrev pub part_text : Part → List ℕ
part_text (Word word) = word.now
part_text (Bytes bytes) = bytes.now
part_text (Number n) = decimal n
part_text (Signed v) = signed_decimal v

-- the texts of parts, one after the other
abbrev pub text_of_parts : List Part → List ℕ
text_of_parts parts = flat_map part_text parts
