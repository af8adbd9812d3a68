-- Alarms that are read one after the other.
use Rattle.std.proofs.Common.{◌≡◌, ℕ, List, [], ◌∷◌, ◌++◌, length, refl, ap, arith}
use Rattle.alm_types.specs.declared.attr.Attr.{Attr}
use Rattle.alm_state.specs.Rows.{State}
use Rattle.alm_codec.specs.ImageFields.{Alarm, fixed_in, alarms_in}

abbrev pub alarm_from : Attr → State → List ℕ → Alarm
alarm_from a s ms = record { fixed = fixed_in a; state = s; moments = ms }

pub alarms_in-push : (attrs : List Attr) (rows : List State) (moments : List (List ℕ)) (a : Attr) (s : State) (ms : List ℕ) → length rows ≡ length attrs → length moments ≡ length attrs
    → alarms_in (attrs ++ a ∷ []) (rows ++ s ∷ []) (moments ++ ms ∷ []) ≡ alarms_in attrs rows moments ++ alarm_from a s ms ∷ []
alarms_in-push [] [] [] a s ms e f = refl
alarms_in-push [] (r ∷ rows) moments a s ms e f = absurd (omega (arith, e))
alarms_in-push [] [] (n ∷ moments) a s ms e f = absurd (omega (arith, f))
alarms_in-push (b ∷ attrs) [] moments a s ms e f = absurd (omega (arith, e))
alarms_in-push (b ∷ attrs) (r ∷ rows) [] a s ms e f = absurd (omega (arith, f))
alarms_in-push (b ∷ attrs) (r ∷ rows) (n ∷ moments) a s ms e f = ap (λ (list : List Alarm). alarm_from b r n ∷ list) (alarms_in-push attrs rows moments a s ms (omega (arith, e)) (omega (arith, f)))
