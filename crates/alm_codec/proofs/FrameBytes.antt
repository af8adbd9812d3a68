-- The fields of frames are bytes, and so is their checksum.
use Rattle.std.proofs.Common.{All, ℕ, ◌*◌, ◌%◌, ◌^◌, ◌<◌, List, [], ◌∷◌, ◌++◌, length, arith}
use Rattle.std.specs.List.{AllByRecursion}
use Rattle.std.specs.Int.{w16, w32, w64, to_be_bytes}
use Rattle.std.proofs.lemmas.Nat.{xor_lt}
use Rattle.std.proofs.lemmas.Bool.{leb-true}
use Rattle.std.proofs.lemmas.List.Elements.{All-from_recursion, recursion_from_All, All-append}
use Rattle.alm_types.specs.declared.action.Action.{Action}
use Rattle.alm_types.specs.declared.action.Action.TheVariants.{Clock, Value, Ack, Reset, Shelve, Unshelve, Oos, Design, SetPriority, SetSetpoint}
use Rattle.alm_types.specs.Sizes.{slot_count}
use Rattle.alm_codec.specs.Actions.{kind_of, text_by, asked_text}
use Rattle.alm_codec.specs.declared.asked.Asked.{Asked}
use Rattle.alm_codec.specs.Versions.{IsSaid}
use Rattle.alm_codec.specs.declared.version.Version.{Version}
use Rattle.alm_codec.specs.declared.version.Version.TheVariants.{V01, V02, V03}
use Rattle.alm_codec.specs.Frames.{count_unit, first_text, frame_head, texts_of}
use Rattle.alm_sum.specs.Crc.{register_after_bytes, checksum_of}
use Rattle.alm_sum.proofs.Bytes.{IsByte, AreBytes}
use Rattle.alm_sum.proofs.Changes.{after_lt}

pub both : (x y : List ℕ) → AreBytes x → AreBytes y → AreBytes (x ++ y)
both x y p q = All-append IsByte x y p q

pub two : (n : ℕ) → AreBytes (to_be_bytes w16 n)
two n = All-from_recursion IsByte (to_be_bytes w16 n) (omega arith, (omega arith, tt))

pub eight : (n : ℕ) → AreBytes (to_be_bytes w64 n)
eight n = All-from_recursion IsByte (to_be_bytes w64 n) (omega arith, (omega arith, (omega arith, (omega arith, (omega arith, (omega arith, (omega arith, (omega arith, tt))))))))

kind_lt : (a : Action) → kind_of a < 256
kind_lt (Clock t) = omega arith
kind_lt (Value i v) = omega arith
kind_lt (Ack i) = omega arith
kind_lt (Reset i) = omega arith
kind_lt (Shelve i seconds) = omega arith
kind_lt (Unshelve i) = omega arith
kind_lt (Oos i on) = omega arith
kind_lt (Design i on) = omega arith
kind_lt (SetPriority i priority) = omega arith
kind_lt (SetSetpoint i v) = omega arith

one : (n : ℕ) (a : Action) → n < 256 → AllByRecursion IsByte (text_by n a)
one n a lt = (kind_lt a, (lt, (omega arith, (omega arith, (omega arith, (omega arith, (omega arith, (omega arith, (omega arith, (omega arith, (omega arith, (omega arith, (omega arith, (omega arith, (omega arith, (omega arith, tt))))))))))))))))

one_asked : (version : Version) (x : Asked) → IsSaid version x → AllByRecursion IsByte (asked_text version x)
one_asked V01 x said = one 0 x.action (omega arith)
one_asked V02 x said = one 0 x.action (omega arith)
one_asked V03 x said = let le = leb-true x.asker slot_count said in one x.asker x.action (omega (arith, le))

each_bytes : (version : Version) (list : List Asked) → AllByRecursion (IsSaid version) list → AreBytes (texts_of version list)
each_bytes version [] said = All-from_recursion IsByte [] tt
each_bytes version (x ∷ list) said = both (asked_text version x) (texts_of version list) (All-from_recursion IsByte (asked_text version x) (one_asked version x said.0)) (each_bytes version list said.1)

pub texts_bytes : (version : Version) (list : List Asked) → All (IsSaid version) list → AreBytes (texts_of version list)
texts_bytes version list said = each_bytes version list (recursion_from_All (IsSaid version) list said)

pub four : (n : ℕ) → AreBytes (to_be_bytes w32 n)
four n = All-from_recursion IsByte (to_be_bytes w32 n) (omega arith, (omega arith, (omega arith, (omega arith, tt))))

first_bytes : (version : Version) (first : ℕ) → AreBytes (first_text version first)
first_bytes V01 first = eight first
first_bytes V02 first = eight first
first_bytes V03 first = four (first % 2 ^ 32)

pub head_bytes : (version : Version) (epoch first n : ℕ) → AreBytes (frame_head version epoch first n)
head_bytes version epoch first n =
    both (to_be_bytes w64 epoch ++ first_text version first) (to_be_bytes w16 (count_unit version * n))
    (both (to_be_bytes w64 epoch) (first_text version first) (eight epoch) (first_bytes version first)) (two (count_unit version * n))

pub checksum_lt : (bytes : List ℕ) → AreBytes bytes → checksum_of bytes < 2 ^ 32
checksum_lt bytes are = xor_lt 32 (register_after_bytes 0xFFFFFFFF bytes) 0xFFFFFFFF (after_lt 0xFFFFFFFF bytes (omega arith) (recursion_from_All IsByte bytes are)) (omega arith)

pub frame_sum_lt : (version : Version) (epoch first : ℕ) (list : List Asked) → All (IsSaid version) list → checksum_of (frame_head version epoch first (length list) ++ texts_of version list) < 2 ^ 32
frame_sum_lt version epoch first list said =
    let head : List ℕ = frame_head version epoch first (length list) in
    checksum_lt (head ++ texts_of version list) (both head (texts_of version list) (head_bytes version epoch first (length list)) (texts_bytes version list said))
