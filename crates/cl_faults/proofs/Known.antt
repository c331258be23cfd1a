-- Where all kinds are known, they are those that are known.
use Rattle.std.proofs.Common.{suc, length, List, [], ◌∷◌, Option, None, Some, true, false, ◌≡◌, refl, sym, ap, ◌∙◌}
use Rattle.cl_meaning.specs.declared.kind.Kind.{Kind}
use Rattle.cl_meaning.specs.declared.kind.Parameter.{Parameter}
use Rattle.cl_meaning.specs.Kinds.{on_one, is_some, all_known, arguments_fit}
use Rattle.cl_faults.specs.Known.{known}

some_more : (k : Kind) (o : Option (List Kind)) → is_some (on_one o (λ x. Some (k ∷ x))) ≡ is_some o
some_more k None = refl
some_more k (Some x) = refl

-- one kind more that is known
pub all_known_more : (k : Kind) (ks : List (Option Kind)) → is_some (all_known (Some k ∷ ks)) ≡ is_some (all_known ks)
all_known_more k ks = some_more k (all_known ks)

none_then : (k : Kind) (o : Option (List Kind)) → is_some (on_one o (λ x. Some (k ∷ x))) ≡ false →
    on_one o (λ x. Some (k ∷ x)) ≡ None
none_then k None h = refl
none_then k (Some x) h = absurd cc

pub all_known_when : (ks : List (Option Kind)) → is_some (all_known ks) ≡ true → all_known ks ≡ Some (known ks)
all_known_when [] h = refl
all_known_when (None ∷ ks) h = absurd cc
all_known_when (Some k ∷ ks) h =
    ap (λ (o : Option (List Kind)). on_one o (λ x. Some (k ∷ x)))
    (all_known_when ks (sym (some_more k (all_known ks)) ∙ h))

pub all_known_unless : (ks : List (Option Kind)) → is_some (all_known ks) ≡ false → all_known ks ≡ None
all_known_unless [] h = absurd cc
all_known_unless (None ∷ ks) h = refl
all_known_unless (Some k ∷ ks) h = none_then k (all_known ks) h

-- no arguments fit all parameters
pub no_argument : (ps : List Parameter) → arguments_fit ps [] ≡ true
no_argument [] = refl
no_argument (p ∷ ps) = refl

pub known_length : (ks : List (Option Kind)) → is_some (all_known ks) ≡ true → length (known ks) ≡ length ks
known_length [] h = refl
known_length (None ∷ ks) h = absurd cc
known_length (Some k ∷ ks) h = ap suc (known_length ks (sym (some_more k (all_known ks)) ∙ h))

pub ruleset all_are_known = (all_known_when, all_known_unless, known_length)
