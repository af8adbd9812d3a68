-- The text of an image: the clock, the next stamp, the areas and the alarms.
use Rattle.std.specs.Prelude.{◌≡◌, ℕ, ◌+◌, ◌*◌, ◌^◌, ◌<◌, List, [], ◌∷◌, ◌++◌, length, Bool, Option, Some}
use Rattle.std.specs.List.{flat_map}
use Rattle.std.specs.Int.{w32, w64, to_be_bytes, cast_unsigned}
use Rattle.alm_types.specs.Texts.{with_padding}
use Rattle.alm_types.specs.declared.attr.Attr.{Attr}
use Rattle.alm_types.specs.declared.kind.Kind.{Kind}
use Rattle.alm_types.specs.declared.kind.Kind.TheVariants.{High, Low, Discrete}
use Rattle.alm_state.specs.declared.core_state.Core.{Core}
use Rattle.alm_state.specs.declared.core_state.Core.TheVariants.{Normal, Unack, Acked, RtnUnack, LatchUnack, LatchAcked}
use Rattle.alm_state.specs.Rows.{State}
use Rattle.alm_state.specs.Showing.{flags_of}
use Rattle.alm_model.specs.Plant.{Condensed}
use Rattle.alm_model.specs.Lists.{deadline}
use Rattle.alm_model.specs.Rules.{KeepsRules}
use Rattle.alm_codec.specs.Actions.{switch_number}

abbrev pub kind_code : Kind → ℕ
kind_code High = 1
kind_code Low = 2
kind_code Discrete = 3

abbrev pub core_code : Core → ℕ
core_code Normal = 0
core_code Unack = 1
core_code Acked = 2
core_code RtnUnack = 3
core_code LatchUnack = 4
core_code LatchAcked = 5

-- numbers of 64 bits, one after the other
abbrev pub words : List ℕ → List ℕ
words numbers = flat_map (to_be_bytes w64) numbers

-- a flood byte and the ages
abbrev pub area_text : Bool → List ℕ → List ℕ
area_text flood ages = switch_number flood ∷ words ages

-- a text after its length, in a field of a size
abbrev pub placed_text : ℕ → List ℕ → List ℕ
placed_text size text = length text ∷ with_padding size text

-- the attributes of an alarm
abbrev pub settings_text : Attr → List ℕ
settings_text a = kind_code a.kind ∷ a.priority ∷ a.area ∷ switch_number a.latching ∷ to_be_bytes w64 (cast_unsigned w64 a.setpoint) ++ to_be_bytes w64 a.deadband ++ to_be_bytes w32 a.max_shelve

abbrev pub attr_text : Attr → List ℕ
attr_text a = settings_text a ++ placed_text 32 a.tag ++ placed_text 80 a.text

-- what changes of an alarm, and its last moments
abbrev pub row_text : State → List ℕ → List ℕ
row_text s moments = switch_number s.active ∷ core_code s.core ∷ flags_of s ∷ length moments ∷ to_be_bytes w64 (deadline s) ++ to_be_bytes w64 s.stamp ++ words (with_padding 3 moments)

abbrev pub area_texts : List Bool → List (List ℕ) → List ℕ
area_texts (flood ∷ floods) (ages ∷ others) = area_text flood ages ++ area_texts floods others
area_texts _ _ = []

abbrev pub alarm_texts : List Attr → List State → List (List ℕ) → List ℕ
alarm_texts (a ∷ attrs) (s ∷ rows) (ms ∷ moments) = attr_text a ++ row_text s ms ++ alarm_texts attrs rows moments
alarm_texts _ _ _ = []

-- one area of a plant, one alarm of it
abbrev pub area_text_of : Option Bool → Option (List ℕ) → List ℕ
area_text_of (Some flood) (Some ages) = area_text flood ages
area_text_of _ _ = []

abbrev pub alarm_text_of : Option Attr → Option State → Option (List ℕ) → List ℕ
alarm_text_of (Some a) (Some s) (Some moments) = attr_text a ++ row_text s moments
alarm_text_of _ _ _ = []

abbrev pub image_text : Condensed → List ℕ
image_text q = to_be_bytes w64 q.panel.now ++ to_be_bytes w64 q.panel.next_stamp ++ area_texts q.floods q.kept.ages ++ alarm_texts q.panel.attrs q.panel.rows q.kept.moments

-- how long an image is
abbrev pub image_len : ℕ → ℕ → ℕ
image_len rows areas = 16 + areas * 4801 + rows * 182

-- the bytes are the image of a plant: every plant that keeps the rules has one, as long as its next stamp is a number of 64 bits
pub record IsImageText (q : Condensed) (bytes : List ℕ) : Type 0 where
  pub rules : KeepsRules q
  pub fits : q.panel.next_stamp < 2 ^ 64
  pub text : bytes ≡ image_text q

-- a plant of this number of rows and areas after this number of actions
pub record IsOf (rows areas count : ℕ) (q : Condensed) : Type 0 where
  pub by_rows : length q.panel.rows ≡ rows
  pub by_areas : length q.floods ≡ areas
  pub by_count : q.panel.count ≡ count
