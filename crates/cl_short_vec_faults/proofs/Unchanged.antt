-- A node is no more at fault than one of the same words, of parts of the same kinds, that names the same.
use Rattle.std.proofs.Common.{◌≡◌, ℕ, List, [], ◌∷◌, length, Option, None, Some, Bool, true, false, not, ◌&&◌, refl, ap}
use Rattle.std.proofs.Common.{sym, ◌∙◌}
use Rattle.std.proofs.lemmas.Bool.{false≢true}
use Rattle.cl_tree.specs.declared.tree.Form.{Form}
use Rattle.cl_tree.specs.declared.tree.Form.TheVariants as forms
use Rattle.cl_tree.specs.Syntax.{node, Forest}
use Rattle.cl_meaning.specs.Spelling.{name_in}
use Rattle.cl_meaning.specs.Types.{declared_in}
use Rattle.cl_meaning.specs.declared.kind.Kind.{Kind}
use Rattle.cl_meaning.specs.declared.kind.Role.{Role}
use Rattle.cl_meaning.specs.Environment.{Env, Owner}
use Rattle.cl_meaning.specs.Kinds.{is_some, on_one, on_both, name_kind, Callee, callee_of, arity_fits, call_fits}
use Rattle.cl_meaning.specs.Kinds.{call_kind, all_known, is_number, is_constant_memory, cast_kind, cast_part_kind}
use Rattle.cl_meaning.specs.Kinds.{are_flags_alone, first_part, kind_step}
use Rattle.cl_meaning.specs.Declarations.{first_type}
use Rattle.cl_meaning.specs.Visible.{inside}
use Rattle.cl_meaning.specs.Faults.{Asked, given, lacks, unknown_name, valueless, cast_misfits, misfits}
use Rattle.cl_meaning.specs.Faults.{miscounted, mispassed, unassignable, of_target, leads_from}
use Rattle.cl_meaning.specs.Faults.{recursion, pointer_root, is_fence_call, barrier_flags, is_tested}
use Rattle.cl_check_sound.specs.Shape.{is_expression, AreOperands}
use Rattle.cl_check_sound.specs.Sound.{ListedAt}
use Rattle.cl_check_sound.proofs.Plain.{kinds_here, SoundHere}
use Rattle.cl_short_vec_faults.proofs.Building.{seen, Fine, Good, good}

-- what a node names
abbrev pub NameSame : Env → Env → Form → List ℕ → Type 0
NameSame p s forms.VariableNode w = name_kind s (name_in w) ≡ name_kind p (name_in w)
NameSame p s forms.CallNode w = callee_of s (name_in w) ≡ callee_of p (name_in w)
NameSame p s form w = Unit {0}

-- the type in front of a cast
abbrev pub FrontSame : Form → Forest → Forest → Type 0
FrontSame forms.CastNode P S = (first_type S ≡ first_type P) × (first_part S ≡ first_part P)
FrontSame form P S = Unit {0}

-- the argument of a fence
abbrev pub FlagsSame : Form → Forest → Forest → Type 0
FlagsSame forms.CallNode P S = are_flags_alone P ≡ true → are_flags_alone S ≡ true
FlagsSame form P S = Unit {0}

-- ---- each condition

unknown_same : (form : Form) (p s : Env) (role : Role) (w : List ℕ) (f : ℕ) (P S : Forest) (ks : List (Option Kind)) →
    NameSame p s form w → unknown_name (seen s role form w f S ks) form ≡ unknown_name (seen p role form w f P ks) form
unknown_same forms.VariableNode p s role w f P S ks n = ap (λ z. not (is_some z)) n
unknown_same forms.CallNode p s role w f P S ks n = ap (λ z. not (is_some z)) n
unknown_same _ p s role w f P S ks n = refl

pub step_same : (form : Form) (p s : Env) (w : List ℕ) (P S : Forest) (ks : List (Option Kind)) →
    NameSame p s form w → FrontSame form P S → kind_step s form w S ks ≡ kind_step p form w P ks
unfolding kind_step
step_same forms.VariableNode p s w P S ks n t = n
step_same forms.CallNode p s w P S ks n t = ap (λ z. on_both z (all_known ks) call_kind) n
step_same forms.CastNode p s w P S ks n t = by ks
  where
    by : (js : List (Option Kind)) → cast_part_kind S js ≡ cast_part_kind P js
    by (k ∷ j ∷ []) = ap (λ z. on_one j (cast_kind (declared_in z))) t.1
    by [] = refl
    by (k ∷ []) = refl
    by (k ∷ j ∷ (i ∷ is)) = refl
step_same _ p s w P S ks n t = refl

misfit_same : (form : Form) → is_expression form ≡ true → (p s : Env) (role : Role) (w : List ℕ) (f : ℕ)
    (P S : Forest) (ks : List (Option Kind)) → NameSame p s form w → FrontSame form P S →
    misfits (seen s role form w f S ks) form ≡ misfits (seen p role form w f P ks) form
unfolding misfits
misfit_same forms.DeclaratorNode e p s role w f P S ks n t = absurd (false≢true e)
misfit_same forms.CastNode e p s role w f P S ks n t = by ks
  where
    by : (js : List (Option Kind)) → cast_misfits S js ≡ cast_misfits P js
    by [] = refl
    by (k ∷ js) = ap (λ z. given z (λ d. lacks (cast_kind (Some d)) js)) t.0
misfit_same forms.CallNode e p s role w f P S ks n t =
    ap (λ z. valueless (seen s role forms.CallNode w f S ks) z) n ∙ by (callee_of p (name_in w))
  where
    by : (o : Option Callee) → valueless (seen s role forms.CallNode w f S ks) o ≡
        valueless (seen p role forms.CallNode w f P ks) o
    by None = refl
    by (Some c) = refl
misfit_same _ e p s role w f P S ks n t = refl

counted_same : (form : Form) (p s : Env) (role : Role) (w : List ℕ) (f : ℕ) (P S : Forest) (ks : List (Option Kind)) →
    NameSame p s form w → miscounted (seen s role form w f S ks) form ≡ miscounted (seen p role form w f P ks) form
counted_same forms.CallNode p s role w f P S ks n = ap (λ z. given z (λ c. not (arity_fits c (length ks)))) n
counted_same _ p s role w f P S ks n = refl

passed_same : (form : Form) (p s : Env) (role : Role) (w : List ℕ) (f : ℕ) (P S : Forest) (ks : List (Option Kind)) →
    NameSame p s form w → mispassed (seen s role form w f S ks) form ≡ mispassed (seen p role form w f P ks) form
passed_same forms.CallNode p s role w f P S ks n = ap (λ z. given z (λ c. given (all_known ks)
    (λ as'. arity_fits c (length as') && not (call_fits c as')))) n
passed_same _ p s role w f P S ks n = refl

target_same : (form : Form) (test : Kind → Bool) (p s : Env) (role : Role) (w : List ℕ) (f : ℕ) (P S : Forest)
    (ks : List (Option Kind)) →
    of_target (seen s role form w f S ks) test form ≡ of_target (seen p role form w f P ks) test form
target_same forms.AssignNode test p s role w f P S ks = refl
target_same _ test p s role w f P S ks = refl

recursion_same : (form : Form) (asked : Asked) (p s : Env) (role : Role) (w : List ℕ) (f : ℕ) (P S : Forest)
    (ks : List (Option Kind)) → NameSame p s form w → s.owner ≡ p.owner →
    recursion asked (seen s role form w f S ks) form ≡ recursion asked (seen p role form w f P ks) form
recursion_same forms.CallNode asked p s role w f P S ks n o =
    ap (λ z. given z (leads_from asked.calls s.owner.number)) n ∙
    ap (λ (z : Owner). given (callee_of p (name_in w)) (leads_from asked.calls z.number)) o
recursion_same _ asked p s role w f P S ks n o = refl

root_same : (form : Form) → is_expression form ≡ true → (p s : Env) (role : Role) (w : List ℕ) (f : ℕ)
    (P S : Forest) (ks : List (Option Kind)) →
    pointer_root (seen s role form w f S ks) form ≡ pointer_root (seen p role form w f P ks) form
root_same forms.DeclaratorNode e p s role w f P S ks = absurd (false≢true e)
root_same _ e p s role w f P S ks = refl

-- flags that are right stay right
fence_same : (o : Option Callee) (n : ℕ) (a b : Bool) → (a ≡ true → b ≡ true) →
    given o (λ c. is_fence_call c && (arity_fits c n && not a)) ≡ false →
    given o (λ c. is_fence_call c && (arity_fits c n && not b)) ≡ false
fence_same None n a b g h = refl
fence_same (Some c) n true b g h = rw (g refl) h
fence_same (Some c) n false b g h = by (is_fence_call c) (arity_fits c n) b h
  where
    by : (x y z : Bool) → (x && (y && true)) ≡ false → (x && (y && not z)) ≡ false
    by false y z k = refl
    by true false z k = refl
    by true true z k = absurd (false≢true (sym k))

flags_same : (form : Form) (p s : Env) (role : Role) (w : List ℕ) (f : ℕ) (P S : Forest) (ks : List (Option Kind)) →
    NameSame p s form w → FlagsSame form P S → barrier_flags (seen p role form w f P ks) form ≡ false →
    barrier_flags (seen s role form w f S ks) form ≡ false
flags_same forms.CallNode p s role w f P S ks n g h =
    ap (λ z. given z (λ c. is_fence_call c && (arity_fits c (length ks) && not (are_flags_alone S)))) n ∙
    fence_same (callee_of p (name_in w)) (length ks) (are_flags_alone P) (are_flags_alone S) g h
flags_same _ p s role w f P S ks n g h = refl

-- ---- all of them

-- the argument of a fence is looked at by itself
fine_but : (form : Form) → is_expression form ≡ true → (asked : Asked) (p s : Env) (role : Role) (w : List ℕ)
    (f : ℕ) (P S : Forest) (ks : List (Option Kind)) → NameSame p s form w → s.owner ≡ p.owner →
    FrontSame form P S → barrier_flags (seen s role form w f S ks) form ≡ false →
    Fine asked (seen p role form w f P ks) → Fine asked (seen s role form w f S ks)
fine_but form e asked p s role w f P S ks n o t g h = record {
  known = unknown_same form p s role w f P S ks n ∙ h.known;
  fit = misfit_same form e p s role w f P S ks n t ∙ h.fit;
  tested = ap (λ z. is_tested role && given z (λ a. not (is_number a))) (step_same form p s w P S ks n t) ∙ h.tested;
  counted = counted_same form p s role w f P S ks n ∙ h.counted;
  passed = passed_same form p s role w f P S ks n ∙ h.passed;
  assignable = target_same form unassignable p s role w f P S ks ∙ h.assignable;
  written = target_same form is_constant_memory p s role w f P S ks ∙ h.written;
  ends = recursion_same form asked p s role w f P S ks n o ∙ h.ends;
  rooted = root_same form e p s role w f P S ks ∙ h.rooted;
  flagged = g;
}

pub fine_same : (form : Form) → is_expression form ≡ true → (asked : Asked) (p s : Env) (role : Role) (w : List ℕ)
    (f : ℕ) (P S : Forest) (ks : List (Option Kind)) → NameSame p s form w → s.owner ≡ p.owner →
    FrontSame form P S → FlagsSame form P S → Fine asked (seen p role form w f P ks) →
    Fine asked (seen s role form w f S ks)
fine_same form e asked p s role w f P S ks n o t g h =
    fine_but form e asked p s role w f P S ks n o t (flags_same form p s role w f P S ks n g h.flagged) h

listed_same : (form : Form) (asked : Asked) (p s : Env) (w : List ℕ) → NameSame p s form w → ListedAt asked p form w →
    ListedAt asked s form w
listed_same forms.CallNode asked p s w n h = λ e. h (sym n ∙ e)
listed_same _ asked p s w n h = tt

-- a node of parts of the same kinds
pub good_same : (form : Form) → is_expression form ≡ true → (asked : Asked) (p s : Env) (role : Role) (w : List ℕ)
    (f l : ℕ) (P S : Forest) (ks : List (Option Kind)) (k : Kind) → AreOperands S → NameSame p s form w →
    s.owner ≡ p.owner → FrontSame form P S → barrier_flags (seen s role form w f S ks) form ≡ false →
    ListedAt asked p form w → SoundHere asked (inside s form w) S → kinds_here (inside s form w) S ≡ ks →
    Fine asked (seen p role form w f P ks) → kind_step p form w P ks ≡ Some k →
    Good asked s role (node form w f l S) k
good_same form e asked p s role w f l P S ks k hs n o t g li ss ke h st =
    good asked s role form w f l S ks k e hs ss ke (listed_same form asked p s w n li)
    (fine_but form e asked p s role w f P S ks n o t g h) (step_same form p s w P S ks n t ∙ st)
