-- Nodes that are no calls, of one to three parts; and those at which only the kinds of the parts tell.
use Rattle.std.proofs.Common.{◌≡◌, ℕ, List, [], ◌∷◌, Option, Some, Bool, true, false, not, ◌&&◌, refl, ap, sym}
use Rattle.std.proofs.Common.{◌∙◌, subst, inl}
use Rattle.std.proofs.lemmas.Bool.{false≢true}
use Rattle.cl_tree.specs.declared.tree.Form.{Form}
use Rattle.cl_tree.specs.declared.tree.Form.TheVariants as forms
use Rattle.cl_tree.specs.Syntax.{Syntax, node, Forest, none}
use Rattle.cl_tree.specs.Nodes.{forest1, forest2, forest3}
use Rattle.cl_meaning.specs.declared.kind.Kind.{Kind}
use Rattle.cl_meaning.specs.declared.kind.Role.{Role}
use Rattle.cl_meaning.specs.declared.kind.Role.TheVariants as roles
use Rattle.cl_meaning.specs.Environment.{Env}
use Rattle.cl_meaning.specs.Kinds.{is_number, kind_step}
use Rattle.cl_meaning.specs.Visible.{inside, kind_of}
use Rattle.cl_meaning.specs.Faults.{Asked, Looked, given, unknown_name, misfits, tested_misfits, is_tested, miscounted}
use Rattle.cl_meaning.specs.Faults.{mispassed, of_target, recursion, pointer_root, barrier_flags}
use Rattle.cl_check_sound.specs.Shape.{is_expression, AreOperands}
use Rattle.cl_check_sound.specs.Sound.{ListedAt}
use Rattle.cl_check_sound.proofs.Plain.{kinds_here, SoundHere}
use Rattle.cl_short_vec_faults.proofs.Building.{seen, Fine, Good, good}

-- ---- what is visible inside

abbrev pub is_call : Form → Bool
is_call forms.CallNode = true
is_call form = false

pub inside_same : (form : Form) → is_expression form ≡ true → is_call form ≡ false → (env : Env) (w : List ℕ) →
    inside env form w ≡ env
unfolding inside
inside_same forms.FunctionNode e c env w = absurd (false≢true e)
inside_same forms.PrototypeNode e c env w = absurd (false≢true e)
inside_same forms.BlockNode e c env w = absurd (false≢true e)
inside_same forms.IfNode e c env w = absurd (false≢true e)
inside_same forms.WhileNode e c env w = absurd (false≢true e)
inside_same forms.DoNode e c env w = absurd (false≢true e)
inside_same forms.ForNode e c env w = absurd (false≢true e)
inside_same forms.SwitchNode e c env w = absurd (false≢true e)
inside_same forms.DefaultNode e c env w = absurd (false≢true e)
inside_same forms.CallNode e c env w = absurd (false≢true (sym c))
inside_same _ e c env w = refl

pub unlisted : (form : Form) → is_call form ≡ false → (asked : Asked) (env : Env) (w : List ℕ) →
    ListedAt asked env form w
unlisted forms.CallNode c asked env w = absurd (false≢true (sym c))
unlisted _ c asked env w = tt

-- ---- parts

pub here_same : (form : Form) → is_expression form ≡ true → is_call form ≡ false → (asked : Asked) (env : Env)
    (w : List ℕ) (parts : Forest) → SoundHere asked env parts → SoundHere asked (inside env form w) parts
here_same form e c asked env w parts s = subst (λ z. SoundHere asked z parts) (sym (inside_same form e c env w)) s

pub kinds_same : (form : Form) → is_expression form ≡ true → is_call form ≡ false → (env : Env) (w : List ℕ)
    (parts : Forest) (ks : List (Option Kind)) → kinds_here env parts ≡ ks →
    kinds_here (inside env form w) parts ≡ ks
kinds_same form e c env w parts ks k = ap (λ z. kinds_here z parts) (inside_same form e c env w) ∙ k

pub one_kind : (env : Env) (a : Syntax) (k : Option Kind) → kind_of env a ≡ k → kinds_here env (forest1 a) ≡ k ∷ []
one_kind env a k e = ap (λ z. z ∷ []) e

pub two_kinds : (env : Env) (a b : Syntax) (j k : Option Kind) → kind_of env a ≡ j → kind_of env b ≡ k →
    kinds_here env (forest2 a b) ≡ j ∷ k ∷ []
two_kinds env a b j k d e = ap (λ z. z ∷ kind_of env b ∷ []) d ∙ ap (λ z. j ∷ z ∷ []) e

pub three_kinds : (env : Env) (a b c : Syntax) (i j k : Option Kind) → kind_of env a ≡ i → kind_of env b ≡ j →
    kind_of env c ≡ k → kinds_here env (forest3 a b c) ≡ i ∷ j ∷ k ∷ []
three_kinds env a b c i j k g d e =
    ap (λ z. z ∷ kind_of env b ∷ kind_of env c ∷ []) g ∙ ap (λ z. i ∷ z) (two_kinds env b c j k d e)

-- ---- nodes

module _ (asked : Asked) (env : Env) (role : Role) (form : Form) (w : List ℕ) (f l : ℕ) (k : Kind)
    (e : is_expression form ≡ true) (c : is_call form ≡ false) where
  -- a node of parts with these kinds
  pub whole_good : (parts : Forest) (ks : List (Option Kind)) → AreOperands parts → SoundHere asked env parts →
      kinds_here env parts ≡ ks → Fine asked (seen env role form w f parts ks) →
      kind_step env form w parts ks ≡ Some k → Good asked env role (node form w f l parts) k
  whole_good parts ks h s ke n g = good asked env role form w f l parts ks k e h
      (here_same form e c asked env w parts s) (kinds_same form e c env w parts ks ke)
      (unlisted form c asked env w) n g

  pub leaf_good : Fine asked (seen env role form w f none []) → kind_step env form w none [] ≡ Some k →
      Good asked env role (node form w f l none) k
  leaf_good n g = whole_good none [] tt tt refl n g

  pub one_good : (a : Syntax) (ka : Kind) → Good asked env roles.Other a ka →
      Fine asked (seen env role form w f (forest1 a) (Some ka ∷ [])) →
      kind_step env form w (forest1 a) (Some ka ∷ []) ≡ Some k → Good asked env role (node form w f l (forest1 a)) k
  one_good a ka x n g = whole_good (forest1 a) (Some ka ∷ []) (inl x.made, tt) (x.sound, tt)
      (one_kind env a (Some ka) x.kind) n g

  pub two_good : (a b : Syntax) (ka kb : Kind) → Good asked env roles.Other a ka → Good asked env roles.Other b kb →
      Fine asked (seen env role form w f (forest2 a b) (Some ka ∷ Some kb ∷ [])) →
      kind_step env form w (forest2 a b) (Some ka ∷ Some kb ∷ []) ≡ Some k →
      Good asked env role (node form w f l (forest2 a b)) k
  two_good a b ka kb x y n g = whole_good (forest2 a b) (Some ka ∷ Some kb ∷ []) (inl x.made, (inl y.made, tt))
      (x.sound, (y.sound, tt)) (two_kinds env a b (Some ka) (Some kb) x.kind y.kind) n g

  pub three_good : (a b d : Syntax) (ka kb kd : Kind) → Good asked env roles.Other a ka →
      Good asked env roles.Other b kb → Good asked env roles.Other d kd →
      Fine asked (seen env role form w f (forest3 a b d) (Some ka ∷ Some kb ∷ Some kd ∷ [])) →
      kind_step env form w (forest3 a b d) (Some ka ∷ Some kb ∷ Some kd ∷ []) ≡ Some k →
      Good asked env role (node form w f l (forest3 a b d)) k
  three_good a b d ka kb kd x y z n g = whole_good (forest3 a b d) (Some ka ∷ Some kb ∷ Some kd ∷ [])
      (inl x.made, (inl y.made, (inl z.made, tt))) (x.sound, (y.sound, (z.sound, tt)))
      (three_kinds env a b d (Some ka) (Some kb) (Some kd) x.kind y.kind z.kind) n g

-- ---- productions at which only the kinds of the parts tell

abbrev pub is_quiet : Form → Bool
is_quiet forms.VariableNode = false
is_quiet forms.CallNode = false
is_quiet forms.AssignNode = false
is_quiet forms.UnaryNode = false
is_quiet forms.PostfixNode = false
is_quiet form = is_expression form

pub quiet_expression : (form : Form) → is_quiet form ≡ true → is_expression form ≡ true
quiet_expression forms.VariableNode q = absurd (false≢true q)
quiet_expression forms.CallNode q = absurd (false≢true q)
quiet_expression forms.AssignNode q = absurd (false≢true q)
quiet_expression forms.UnaryNode q = absurd (false≢true q)
quiet_expression forms.PostfixNode q = absurd (false≢true q)
quiet_expression _ q = q

pub quiet_no_call : (form : Form) → is_quiet form ≡ true → is_call form ≡ false
quiet_no_call forms.CallNode q = absurd (false≢true q)
quiet_no_call _ q = refl

quiet_known : (form : Form) → is_quiet form ≡ true → (n : Looked) → unknown_name n form ≡ false
quiet_known forms.VariableNode q n = absurd (false≢true q)
quiet_known forms.CallNode q n = absurd (false≢true q)
quiet_known _ q n = refl

quiet_counted : (form : Form) → is_quiet form ≡ true → (n : Looked) → miscounted n form ≡ false
quiet_counted forms.CallNode q n = absurd (false≢true q)
quiet_counted _ q n = refl

quiet_passed : (form : Form) → is_quiet form ≡ true → (n : Looked) → mispassed n form ≡ false
quiet_passed forms.CallNode q n = absurd (false≢true q)
quiet_passed _ q n = refl

quiet_target : (form : Form) → is_quiet form ≡ true → (test : Kind → Bool) (n : Looked) →
    of_target n test form ≡ false
quiet_target forms.AssignNode q test n = absurd (false≢true q)
quiet_target forms.UnaryNode q test n = absurd (false≢true q)
quiet_target forms.PostfixNode q test n = absurd (false≢true q)
quiet_target _ q test n = refl

quiet_ends : (form : Form) → is_quiet form ≡ true → (asked : Asked) (n : Looked) → recursion asked n form ≡ false
quiet_ends forms.CallNode q asked n = absurd (false≢true q)
quiet_ends _ q asked n = refl

quiet_root : (form : Form) → is_quiet form ≡ true → (n : Looked) → pointer_root n form ≡ false
quiet_root forms.DeclaratorNode q n = absurd (false≢true q)
quiet_root forms.AssignNode q n = absurd (false≢true q)
quiet_root _ q n = refl

quiet_flags : (form : Form) → is_quiet form ≡ true → (n : Looked) → barrier_flags n form ≡ false
quiet_flags forms.CallNode q n = absurd (false≢true q)
quiet_flags _ q n = refl

pub quiet_fine : (asked : Asked) (n : Looked) → is_quiet n.form ≡ true → misfits n n.form ≡ false →
    tested_misfits n ≡ false → Fine asked n
quiet_fine asked n q m t = record {
  known = quiet_known n.form q n;
  fit = m;
  tested = t;
  counted = quiet_counted n.form q n;
  passed = quiet_passed n.form q n;
  assignable = quiet_target n.form q _ n;
  written = quiet_target n.form q _ n;
  ends = quiet_ends n.form q asked n;
  rooted = quiet_root n.form q n;
  flagged = quiet_flags n.form q n;
}

-- ---- what a statement tests

-- it is a number, or nothing tests it
abbrev pub Tests : Role → Kind → Type 0
Tests role k = (is_tested role && not (is_number k)) ≡ false

pub tested_as : (role : Role) (o : Option Kind) (k : Kind) → o ≡ Some k → Tests role k →
    (is_tested role && given o (λ a. not (is_number a))) ≡ false
tested_as role o k e h = ap (λ z. is_tested role && given z (λ a. not (is_number a))) e ∙ h

pub tests_as : (role : Role) (o : Option Kind) (k : Kind) → o ≡ Some k →
    (is_tested role && given o (λ a. not (is_number a))) ≡ false → Tests role k
tests_as role o k e h = ap (λ z. is_tested role && given z (λ a. not (is_number a))) (sym e) ∙ h
