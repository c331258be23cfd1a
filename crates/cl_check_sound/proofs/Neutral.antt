-- An expression declares nothing: behind it is visible what was visible before it.
use Rattle.std.proofs.Common.{◌≡◌, ℕ, List, [], ◌∷◌, length, take, Option, Bool, true, false, refl, ap, ◌∙◌, inl, inr}
use Rattle.std.proofs.lemmas.Bool.{false≢true}
use Rattle.cl_tree.specs.declared.tree.Form.{Form}
use Rattle.cl_tree.specs.declared.tree.Form.TheVariants as forms
use Rattle.cl_tree.specs.Syntax.{Syntax, node, Forest, none, more}
use Rattle.cl_meaning.specs.declared.kind.Kind.{Kind}
use Rattle.cl_meaning.specs.Environment.{Env}
use Rattle.cl_meaning.specs.Visible.{inside, later, restored, left, closed, behind, behind_parts, kind_of, kinds_of}
use Rattle.cl_check_sound.specs.Shape.{is_expression, IsType, OfExpressions, AreOperands}

take_length : {A : Type 0} (xs : List A) → take (length xs) xs ≡ xs
take_length [] = refl
take_length (x ∷ xs) = ap (λ z. x ∷ z) (take_length xs)

-- nothing was opened
pub closed_same : (env : Env) → closed env env ≡ env
closed_same env = ap (λ z. record env { scopes = z }) (take_length env.scopes)

-- what an expression's production does to what is visible
pub later_expression : (form : Form) → is_expression form ≡ true →
    (env : Env) (front : Bool) (p : Syntax) (k : Option Kind) → later env form front p k ≡ env
unfolding later
later_expression forms.ExprNode h env front p k = refl
later_expression forms.AssignNode h env front p k = refl
later_expression forms.CondNode h env front p k = refl
later_expression forms.OrNode h env front p k = refl
later_expression forms.AndNode h env front p k = refl
later_expression forms.BorNode h env front p k = refl
later_expression forms.BxorNode h env front p k = refl
later_expression forms.BandNode h env front p k = refl
later_expression forms.EqualNode h env front p k = refl
later_expression forms.OrderNode h env front p k = refl
later_expression forms.ShiftNode h env front p k = refl
later_expression forms.SumNode h env front p k = refl
later_expression forms.TermNode h env front p k = refl
later_expression forms.CastNode h env front p k = refl
later_expression forms.UnaryNode h env front p k = refl
later_expression forms.PostfixNode h env front p k = refl
later_expression forms.TruthNode h env front p k = refl
later_expression forms.VariableNode h env front p k = refl
later_expression forms.CallNode h env front p k = refl
later_expression forms.ParenNode h env front p k = refl
later_expression forms.NumberNode h env front p k = refl
later_expression _ h env front p k = absurd (false≢true h)

-- an expression closes what it opened, and leaves no more
pub left_expression : (form : Form) → is_expression form ≡ true →
    (env : Env) (w : List ℕ) (f l : ℕ) (parts : Forest) (ks : List (Option Kind)) →
    left (restored form env (inside env form w)) (inside env form w) form w f l parts ks ≡ closed env env
unfolding left restored inside
left_expression forms.ExprNode h env w f l parts ks = refl
left_expression forms.AssignNode h env w f l parts ks = refl
left_expression forms.CondNode h env w f l parts ks = refl
left_expression forms.OrNode h env w f l parts ks = refl
left_expression forms.AndNode h env w f l parts ks = refl
left_expression forms.BorNode h env w f l parts ks = refl
left_expression forms.BxorNode h env w f l parts ks = refl
left_expression forms.BandNode h env w f l parts ks = refl
left_expression forms.EqualNode h env w f l parts ks = refl
left_expression forms.OrderNode h env w f l parts ks = refl
left_expression forms.ShiftNode h env w f l parts ks = refl
left_expression forms.SumNode h env w f l parts ks = refl
left_expression forms.TermNode h env w f l parts ks = refl
left_expression forms.CastNode h env w f l parts ks = refl
left_expression forms.UnaryNode h env w f l parts ks = refl
left_expression forms.PostfixNode h env w f l parts ks = refl
left_expression forms.TruthNode h env w f l parts ks = refl
left_expression forms.VariableNode h env w f l parts ks = refl
left_expression forms.CallNode h env w f l parts ks = refl
left_expression forms.ParenNode h env w f l parts ks = refl
left_expression forms.NumberNode h env w f l parts ks = refl
left_expression _ h env w f l parts ks = absurd (false≢true h)

-- a node whose parts leave what is visible leaves it too
behind_node : (env : Env) (form : Form) (w : List ℕ) (f l : ℕ) (parts : Forest) → is_expression form ≡ true →
    behind_parts (inside env form w) form true parts ≡ inside env form w → behind env (node form w f l parts) ≡ env
unfolding behind
behind_node env form w f l parts h e =
    ap (λ z. left (restored form env z) z form w f l parts (kinds_of (inside env form w) form true parts)) e
    ∙ left_expression form h env w f l parts (kinds_of (inside env form w) form true parts) ∙ closed_same env

-- an address space, and a type
behind_space : (env : Env) (w : List ℕ) (f l : ℕ) → behind env (node forms.SpaceNode w f l none) ≡ env
unfolding behind left restored inside later
behind_space env w f l = closed_same env

pub behind_type : (env : Env) (t : Syntax) → IsType t → behind env t ≡ env
unfolding behind left restored inside later
behind_type env (node forms.TypeNode w f l none) h = closed_same env
behind_type env (node forms.TypeNode w f l (more (node forms.SpaceNode w' f' l' none) none)) h =
    ap (λ e. closed env e) (behind_space env w' f' l') ∙ closed_same env
behind_type env t h = absurd h

mutual
  unfolding behind_parts

  pub neutral : (env : Env) (t : Syntax) → OfExpressions t → behind env t ≡ env
  neutral env (node form w f l parts) h =
      behind_node env form w f l parts h.0 (neutral_parts (inside env form w) form h.0 true parts h.1)

  pub neutral_parts : (env : Env) (form : Form) → is_expression form ≡ true → (front : Bool) (parts : Forest) →
      AreOperands parts → behind_parts env form front parts ≡ env
  neutral_parts env form e front none h = refl
  neutral_parts env form e front (more p ps) (inl x, hs) =
      ap (λ z. behind_parts z form false ps) (later_expression form e (behind env p) front p (kind_of env p) ∙
      neutral env p x) ∙ neutral_parts env form e false ps hs
  neutral_parts env form e front (more p ps) (inr x, hs) =
      ap (λ z. behind_parts z form false ps) (later_expression form e (behind env p) front p (kind_of env p) ∙
      behind_type env p x) ∙ neutral_parts env form e false ps hs
