-- The table of the core states is the only one that meets the laws.
use Rattle.std.proofs.Common.{◌≡◌, Bool, true, false, is_some, refl, sym, true≢false}
use Rattle.alm_state.specs.Suits.{suits}
use Rattle.alm_state.specs.Table.{next_core}
use Rattle.alm_state.specs.declared.core_state.Core.{Core}
use Rattle.alm_state.specs.declared.core_state.Core.TheVariants.{Normal, Unack, Acked, RtnUnack, LatchUnack, LatchAcked}
use Rattle.alm_state.specs.declared.happening.Happening.{Happening}
use Rattle.alm_state.specs.declared.happening.Happening.TheVariants.{Comes, Goes, Ack, Reset}
use Rattle.alm_laws.specs.Table.{can_happen, is_that, meets_the_laws}

-- what is so of each core state
each : (f g : Core → Bool) → f Normal ≡ g Normal → f Unack ≡ g Unack → f Acked ≡ g Acked → f RtnUnack ≡ g RtnUnack → f LatchUnack ≡ g LatchUnack → f LatchAcked ≡ g LatchAcked
    → (d : Core) → f d ≡ g d
each f g n u a r lu la Normal = n
each f g n u a r lu la Unack = u
each f g n u a r lu la Acked = a
each f g n u a r lu la RtnUnack = r
each f g n u a r lu la LatchUnack = lu
each f g n u a r lu la LatchAcked = la

pub table-rows : (l : Bool) (h : Happening) (c : Core) → suits l c ≡ true → is_some (next_core l h c) ≡ can_happen h c
table-rows true Comes Normal e = refl
table-rows true Comes Unack e = refl
table-rows true Comes Acked e = refl
table-rows true Comes RtnUnack e = absurd (true≢false (sym e))
table-rows true Comes LatchUnack e = refl
table-rows true Comes LatchAcked e = refl
table-rows true Goes Normal e = refl
table-rows true Goes Unack e = refl
table-rows true Goes Acked e = refl
table-rows true Goes RtnUnack e = absurd (true≢false (sym e))
table-rows true Goes LatchUnack e = refl
table-rows true Goes LatchAcked e = refl
table-rows true Ack Normal e = refl
table-rows true Ack Unack e = refl
table-rows true Ack Acked e = refl
table-rows true Ack RtnUnack e = absurd (true≢false (sym e))
table-rows true Ack LatchUnack e = refl
table-rows true Ack LatchAcked e = refl
table-rows true Reset Normal e = refl
table-rows true Reset Unack e = refl
table-rows true Reset Acked e = refl
table-rows true Reset RtnUnack e = absurd (true≢false (sym e))
table-rows true Reset LatchUnack e = refl
table-rows true Reset LatchAcked e = refl
table-rows false Comes Normal e = refl
table-rows false Comes Unack e = refl
table-rows false Comes Acked e = refl
table-rows false Comes RtnUnack e = refl
table-rows false Comes LatchUnack e = absurd (true≢false (sym e))
table-rows false Comes LatchAcked e = absurd (true≢false (sym e))
table-rows false Goes Normal e = refl
table-rows false Goes Unack e = refl
table-rows false Goes Acked e = refl
table-rows false Goes RtnUnack e = refl
table-rows false Goes LatchUnack e = absurd (true≢false (sym e))
table-rows false Goes LatchAcked e = absurd (true≢false (sym e))
table-rows false Ack Normal e = refl
table-rows false Ack Unack e = refl
table-rows false Ack Acked e = refl
table-rows false Ack RtnUnack e = refl
table-rows false Ack LatchUnack e = absurd (true≢false (sym e))
table-rows false Ack LatchAcked e = absurd (true≢false (sym e))
table-rows false Reset Normal e = refl
table-rows false Reset Unack e = refl
table-rows false Reset Acked e = refl
table-rows false Reset RtnUnack e = refl
table-rows false Reset LatchUnack e = absurd (true≢false (sym e))
table-rows false Reset LatchAcked e = absurd (true≢false (sym e))

pub one-table : (l : Bool) (h : Happening) (c d : Core) → suits l c ≡ true → is_some (next_core l h c) ≡ true → meets_the_laws l h c d ≡ is_that (next_core l h c) d
one-table true Comes Normal d e f = each (meets_the_laws true Comes Normal) (is_that (next_core true Comes Normal)) refl refl refl refl refl refl d
one-table true Comes Unack d e f = absurd (true≢false (sym f))
one-table true Comes Acked d e f = absurd (true≢false (sym f))
one-table true Comes RtnUnack d e f = absurd (true≢false (sym e))
one-table true Comes LatchUnack d e f = each (meets_the_laws true Comes LatchUnack) (is_that (next_core true Comes LatchUnack)) refl refl refl refl refl refl d
one-table true Comes LatchAcked d e f = each (meets_the_laws true Comes LatchAcked) (is_that (next_core true Comes LatchAcked)) refl refl refl refl refl refl d
one-table true Goes Normal d e f = absurd (true≢false (sym f))
one-table true Goes Unack d e f = each (meets_the_laws true Goes Unack) (is_that (next_core true Goes Unack)) refl refl refl refl refl refl d
one-table true Goes Acked d e f = each (meets_the_laws true Goes Acked) (is_that (next_core true Goes Acked)) refl refl refl refl refl refl d
one-table true Goes RtnUnack d e f = absurd (true≢false (sym e))
one-table true Goes LatchUnack d e f = absurd (true≢false (sym f))
one-table true Goes LatchAcked d e f = absurd (true≢false (sym f))
one-table true Ack Normal d e f = absurd (true≢false (sym f))
one-table true Ack Unack d e f = each (meets_the_laws true Ack Unack) (is_that (next_core true Ack Unack)) refl refl refl refl refl refl d
one-table true Ack Acked d e f = absurd (true≢false (sym f))
one-table true Ack RtnUnack d e f = absurd (true≢false (sym e))
one-table true Ack LatchUnack d e f = each (meets_the_laws true Ack LatchUnack) (is_that (next_core true Ack LatchUnack)) refl refl refl refl refl refl d
one-table true Ack LatchAcked d e f = absurd (true≢false (sym f))
one-table true Reset Normal d e f = absurd (true≢false (sym f))
one-table true Reset Unack d e f = absurd (true≢false (sym f))
one-table true Reset Acked d e f = absurd (true≢false (sym f))
one-table true Reset RtnUnack d e f = absurd (true≢false (sym e))
one-table true Reset LatchUnack d e f = absurd (true≢false (sym f))
one-table true Reset LatchAcked d e f = each (meets_the_laws true Reset LatchAcked) (is_that (next_core true Reset LatchAcked)) refl refl refl refl refl refl d
one-table false Comes Normal d e f = each (meets_the_laws false Comes Normal) (is_that (next_core false Comes Normal)) refl refl refl refl refl refl d
one-table false Comes Unack d e f = absurd (true≢false (sym f))
one-table false Comes Acked d e f = absurd (true≢false (sym f))
one-table false Comes RtnUnack d e f = each (meets_the_laws false Comes RtnUnack) (is_that (next_core false Comes RtnUnack)) refl refl refl refl refl refl d
one-table false Comes LatchUnack d e f = absurd (true≢false (sym e))
one-table false Comes LatchAcked d e f = absurd (true≢false (sym e))
one-table false Goes Normal d e f = absurd (true≢false (sym f))
one-table false Goes Unack d e f = each (meets_the_laws false Goes Unack) (is_that (next_core false Goes Unack)) refl refl refl refl refl refl d
one-table false Goes Acked d e f = each (meets_the_laws false Goes Acked) (is_that (next_core false Goes Acked)) refl refl refl refl refl refl d
one-table false Goes RtnUnack d e f = absurd (true≢false (sym f))
one-table false Goes LatchUnack d e f = absurd (true≢false (sym e))
one-table false Goes LatchAcked d e f = absurd (true≢false (sym e))
one-table false Ack Normal d e f = absurd (true≢false (sym f))
one-table false Ack Unack d e f = each (meets_the_laws false Ack Unack) (is_that (next_core false Ack Unack)) refl refl refl refl refl refl d
one-table false Ack Acked d e f = absurd (true≢false (sym f))
one-table false Ack RtnUnack d e f = each (meets_the_laws false Ack RtnUnack) (is_that (next_core false Ack RtnUnack)) refl refl refl refl refl refl d
one-table false Ack LatchUnack d e f = absurd (true≢false (sym e))
one-table false Ack LatchAcked d e f = absurd (true≢false (sym e))
one-table false Reset Normal d e f = absurd (true≢false (sym f))
one-table false Reset Unack d e f = absurd (true≢false (sym f))
one-table false Reset Acked d e f = absurd (true≢false (sym f))
one-table false Reset RtnUnack d e f = absurd (true≢false (sym f))
one-table false Reset LatchUnack d e f = absurd (true≢false (sym e))
one-table false Reset LatchAcked d e f = absurd (true≢false (sym e))
