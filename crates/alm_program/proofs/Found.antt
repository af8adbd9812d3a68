-- Lemmas on the words at a name.
use Rattle.std.proofs.Common.{◌≡◌, refl, sym, ap, Bor, ℕ, Option, Some, None, MatchResult, option_map, ok_or, codes, true, List, Err, Ok}
use Rattle.std.specs.Str.{bytes_eq}
use Rattle.clap.specs.Words.{Row, Text}
use Rattle.alm_codec.specs.declared.version.Version.{Version}
use Rattle.alm_codec.specs.declared.version.Version.TheVariants.{V02, V03}
use Rattle.alm_program.specs.Orders.{At, conns_in, patience_in, desk, device_in, format, format_by, order_at, endpoints_by, serve, serve_by, upgrade, upgrade_by, version_in}
use Rattle.alm_program.specs.declared.words_fault.WordsFault.{WordsFault}
use Rattle.alm_program.specs.declared.words_fault.WordsFault.TheVariants.{Usage}

pub found : (at : Option (Bor Text)) (text : Option Text) → option_map (λ s. s.now) at ≡ text
    → MatchResult (ok_or at Usage) (λ s. text ≡ Some s.now) (λ fault. (fault ≡ Usage) × (text ≡ None))
found None text e = (refl, sym e)
found (Some s) text e = sym e

-- the desk, at the device that was found
pub desk_at : (name : Text) (rows : List Row) (at : Option Text) → bytes_eq name (codes "desk") ≡ true → at ≡ device_in rows
    → order_at name rows ≡ Some (desk at)
desk_at name rows at is e = rw is (ap (λ (d : Option Text). Some (desk d)) (sym e))

-- a number that was read, and one that wasn't
module _ {A : Type 0} where
  pub read : (n : Option A) (at : A) → Ok at ≡ ok_or n Usage → n ≡ Some at
  read None at e = cc
  read (Some m) at e = cc

  pub unread : (n : Option A) (fault : WordsFault) → Err fault ≡ ok_or n Usage → (fault ≡ Usage) × (n ≡ None)
  unread None fault e = (cc, refl)
  unread (Some m) fault e = absurd cc

-- what a server is asked, if all its words are read, and if the time between its scrubs, its patience or its connections aren't
pub served : (d c s t : Option Text) (p : Option At) (device : Text) (at : At) (conns : ℕ) (patience : Option ℕ) (scrub : ℕ) → d ≡ Some device → p ≡ Some at
    → conns_in c ≡ Some conns → patience_in s ≡ Some patience → conns_in t ≡ Some scrub → serve_by d p c s t ≡ Some (serve device at conns patience scrub)
served d c s t p device at conns patience scrub d_is p_is conns_is patience_is scrub_is = rw (d_is, p_is, conns_is, patience_is, scrub_is) refl

pub not_scrubbed : (d c s t : Option Text) (p : Option At) (device : Text) (at : At) (conns : ℕ) (patience : Option ℕ) → d ≡ Some device → p ≡ Some at
    → conns_in c ≡ Some conns → patience_in s ≡ Some patience → conns_in t ≡ None → serve_by d p c s t ≡ None
not_scrubbed d c s t p device at conns patience d_is p_is conns_is patience_is scrub_is = rw (d_is, p_is, conns_is, patience_is, scrub_is) refl

pub not_patient : (d c s t : Option Text) (p : Option At) (device : Text) (at : At) (conns : ℕ) → d ≡ Some device → p ≡ Some at
    → conns_in c ≡ Some conns → patience_in s ≡ None → serve_by d p c s t ≡ None
not_patient d c s t p device at conns d_is p_is conns_is patience_is = rw (d_is, p_is, conns_is, patience_is) refl

pub not_served : (d c s t : Option Text) (p : Option At) (device : Text) (at : At) → d ≡ Some device → p ≡ Some at
    → conns_in c ≡ None → serve_by d p c s t ≡ None
not_served d c s t p device at d_is p_is conns_is = rw (d_is, p_is, conns_is) refl

-- .. and if its endpoints aren't
pub not_placed : (d c s t : Option Text) (p : Option At) (device : Text) → d ≡ Some device → p ≡ None → serve_by d p c s t ≡ None
not_placed d c s t p device d_is p_is = rw (d_is, p_is) refl

-- the endpoints, by words that were found
pub placed : (p p' f f' : Option Text) (at : Option At) → p ≡ p' → f ≡ f' → endpoints_by p f ≡ at → endpoints_by p' f' ≡ at
placed p p' f f' at port folder e = rw (sym port, sym folder) e

-- what a format is asked, if all its words are read, and if its version isn't
pub formatted : (d t v : Option Text) (device table : Text) (version : Version) → d ≡ Some device → t ≡ Some table → version_in V02 v ≡ Some version → format_by d t v ≡ Some (format device table version)
formatted d t v device table version d_is t_is v_is = rw (d_is, t_is, v_is) refl

pub not_versioned : (d t v : Option Text) (device table : Text) → d ≡ Some device → t ≡ Some table → version_in V02 v ≡ None → format_by d t v ≡ None
not_versioned d t v device table d_is t_is v_is = rw (d_is, t_is, v_is) refl

-- what an upgrade is asked, if all its words are read, and if its version isn't
pub upgraded : (d v : Option Text) (device : Text) (version : Version) → d ≡ Some device → version_in V03 v ≡ Some version → upgrade_by d v ≡ Some (upgrade device version)
upgraded d v device version d_is v_is = rw (d_is, v_is) refl

pub not_upgraded : (d v : Option Text) (device : Text) → d ≡ Some device → version_in V03 v ≡ None → upgrade_by d v ≡ None
not_upgraded d v device d_is v_is = rw (d_is, v_is) refl
