-- The given names, one after another.
use Rattle.std.proofs.Common.{ℕ, List, [], ◌∷◌, length, get_or, drop, ◌≡◌, ◌+◌, ◌<◌, refl, sym, ap, ◌∙◌, Option, None}
use Rattle.std.proofs.Common.{Err}
use Rattle.std.proofs.lemmas.List.{drop_more}
use Rattle.cl_prep.specs.declared.prep.Define.{Define}
use Rattle.cl_prep.specs.declared.prep.PrepError.{PrepError}
use Rattle.cl_prep.specs.declared.prep.PrepError.TheVariants as errors
use Rattle.cl_prep.specs.Names.{Names}
use Rattle.cl_prep.specs.Start.{with_define, with_defines}
use Rattle.cl_prep.specs.Scopes.{Adds}

none_stays : (ds : List Define) → with_defines None ds ≡ None
none_stays [] = refl
none_stays (d ∷ ds) = none_stays ds

-- one that is refused refuses all
pub refused_at : (o : Option Names) (ds : List Define) (i : ℕ) (d : Define) → i < length ds → d ≡ get_or ds i d →
    with_define d o ≡ None → with_defines o (drop i ds) ≡ None
refused_at o ds i d h e r =
    let here : drop i ds ≡ d ∷ drop (i + 1) ds =
    drop_more ds i d h ∙ ap (λ (x : Define). x ∷ drop (i + 1) ds) (sym e) in
    ap (with_defines o) here ∙ ap (λ (p : Option Names). with_defines p (drop (i + 1) ds)) r ∙
    none_stays (drop (i + 1) ds)

pub adds_err : (o p : Option Names) (e : PrepError) (n m : Names) → (o ≡ None → p ≡ None) → Adds o (Err e) n →
    Adds p (Err e) m
adds_err o p errors.Memory n m f h = tt
adds_err o p (errors.Redefined at) n m f h = (h.0, f h.1)
adds_err o p (errors.BadDirective at) n m f h = h
adds_err o p (errors.NoName at) n m f h = h
adds_err o p (errors.NoOpening at) n m f h = h
adds_err o p (errors.NotClosed at) n m f h = h
adds_err o p (errors.TooMany at) n m f h = h
