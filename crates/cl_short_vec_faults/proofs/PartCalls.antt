-- The calls in an expression whose plain form is at fault at no node: a function that is known without a declaration is
-- known so without vectors too, and has as many arguments as it takes.
use Rattle.std.proofs.Common.{◌≡◌, ℕ, suc, List, Option, None, Some, Bool, true, false, not, refl, ap, sym, ◌∙◌}
use Rattle.std.proofs.Common.{◌⊎◌, inl, inr, if◌then◌else◌}
use Rattle.std.proofs.lemmas.Bool.{false≢true}
use Rattle.std.specs.Prelude.{nat_eq, length}
use Rattle.wg_num.specs.declared.types.Fun.{Fun}
use Rattle.cl_model.specs.Valid.{arity_of}
use Rattle.cl_tree.specs.declared.tree.Form.{Form}
use Rattle.cl_tree.specs.declared.tree.Form.TheVariants as forms
use Rattle.cl_tree.specs.Syntax.{Syntax, node, Forest, none, more}
use Rattle.cl_tree.specs.Nodes.{forest1}
use Rattle.cl_meaning.specs.Spelling.{name_in, intrinsic_in, prefix_in}
use Rattle.cl_meaning.specs.Declarations.{parts_of}
use Rattle.cl_meaning.specs.declared.operators.Prefix.{Prefix}
use Rattle.cl_meaning.specs.declared.operators.Prefix.TheVariants as prefixes
use Rattle.cl_meaning.specs.declared.names.Intrinsic.TheVariants as intrinsics
use Rattle.cl_meaning.specs.declared.kind.Meaning.{Meaning}
use Rattle.cl_meaning.specs.declared.kind.Meaning.TheVariants as meanings
use Rattle.cl_meaning.specs.declared.kind.Role.TheVariants as roles
use Rattle.cl_meaning.specs.Environment.{Env, meaning_of}
use Rattle.cl_meaning.specs.Kinds.{is_some, Callee, known, callee_by, callee_of, arity_fits}
use Rattle.cl_meaning.specs.Visible.{inside, in_arguments, is_fence_callee}
use Rattle.cl_meaning.specs.Faults.{Asked, given}
use Rattle.cl_check_sound.specs.Shape.{is_expression, IsType, PrefixOf, IsExpressionOf, AreExpressionsOf, OfExpressions}
use Rattle.cl_check_sound.specs.Shape.{AreOperands}
use Rattle.cl_check_sound.specs.Sound.{SoundTree}
use Rattle.cl_check_sound.proofs.Plain.{SoundHere, kinds_here}
use Rattle.cl_short_vec.specs.Plain.{is_pointed}
use Rattle.cl_short_vec.specs.Kinds.{Names}
use Rattle.cl_short_vec_faults.specs.PlainForm.{plain_of, plains_of}
use Rattle.cl_short_vec_faults.specs.Plainly.{has_point, NoPoint, NoPoints, Plainly}
use Rattle.cl_short_vec_faults.specs.Parts.{KnownAlone}
use Rattle.cl_short_vec_faults.proofs.Building.{seen, Taken, taken, fine}
use Rattle.cl_short_vec_faults.proofs.Naming.{callee_same}
use Rattle.cl_short_vec_faults.proofs.Refused.{expression_form}
use Rattle.cl_short_vec_faults.proofs.PlainForms.{type_plain, plain_made, postfix_part}
use Rattle.cl_short_vec_faults.proofs.PartNodes.{many}

-- ---- calls

-- a function of that name that is known without a declaration is called as one, and takes so many arguments
abbrev pub CallsKnown : Env → List ℕ → ℕ → Type 0
CallsKnown env q n = (f : Fun) → intrinsic_in q ≡ Some (intrinsics.Function f) →
    (callee_of env q ≡ Some (known (intrinsics.Function f))) × (nat_eq (arity_of f) n ≡ true)

abbrev pub CallKnownBy : Env → Form → List ℕ → ℕ → Type 0
CallKnownBy env forms.CallNode w n = CallsKnown env (name_in w) n
CallKnownBy env form w n = Unit {0}

abbrev mutual
  -- at each call in a tree
  pub AllCallsKnown : Env → Syntax → Type 0
  AllCallsKnown env (node form w f l parts) = CallKnownBy env form w (many parts) × CallsKnownIn env parts

  pub CallsKnownIn : Env → Forest → Type 0
  CallsKnownIn env none = Unit {0}
  CallsKnownIn env (more p ps) = AllCallsKnown env p × CallsKnownIn env ps

-- ---- parts

-- a type before a list, and expressions
abbrev pub AreTypesOr : Forest → Type 0
AreTypesOr none = Unit {0}
AreTypesOr (more p ps) = (IsType p ⊎ IsExpressionOf true p) × AreTypesOr ps

unary_operand : (o : Option Prefix) (p : Syntax) → PrefixOf o p (IsExpressionOf true p) →
    IsType p ⊎ IsExpressionOf true p
unary_operand None p h = absurd h
unary_operand (Some prefixes.Size) p h = inl h
unary_operand (Some (prefixes.Operator op)) p h = inr h
unary_operand (Some (prefixes.Step op)) p h = inr h
unary_operand (Some prefixes.Address) p h = inr h
unary_operand (Some prefixes.Content) p h = inr h

pub expressions_operands : (ps : Forest) → AreExpressionsOf true ps → AreTypesOr ps
expressions_operands none h = tt
expressions_operands (more p ps) h = (inr h.0, expressions_operands ps h.1)

-- the parts of any expression
pub operands_are : (t : Syntax) → IsExpressionOf true t → AreTypesOr (parts_of t)
operands_are (node forms.NumberNode w f l none) h = tt
operands_are (node forms.TruthNode w f l none) h = tt
operands_are (node forms.VariableNode w f l none) h = tt
operands_are (node forms.ParenNode w f l (more a none)) h = (inr h, tt)
operands_are (node forms.ExprNode w f l (more a (more b none))) h = (inr h.0, (inr h.1, tt))
operands_are (node forms.AssignNode w f l (more a (more b none))) h = (inr h.1, (inr h.2, tt))
operands_are (node forms.CondNode w f l (more c (more a (more b none)))) h = (inr h.0, (inr h.1, (inr h.2, tt)))
operands_are (node forms.OrNode w f l (more a (more b none))) h = (inr h.0, (inr h.1, tt))
operands_are (node forms.AndNode w f l (more a (more b none))) h = (inr h.0, (inr h.1, tt))
operands_are (node forms.BorNode w f l (more a (more b none))) h = (inr h.1, (inr h.2, tt))
operands_are (node forms.BxorNode w f l (more a (more b none))) h = (inr h.1, (inr h.2, tt))
operands_are (node forms.BandNode w f l (more a (more b none))) h = (inr h.1, (inr h.2, tt))
operands_are (node forms.EqualNode w f l (more a (more b none))) h = (inr h.1, (inr h.2, tt))
operands_are (node forms.OrderNode w f l (more a (more b none))) h = (inr h.1, (inr h.2, tt))
operands_are (node forms.ShiftNode w f l (more a (more b none))) h = (inr h.1, (inr h.2, tt))
operands_are (node forms.SumNode w f l (more a (more b none))) h = (inr h.1, (inr h.2, tt))
operands_are (node forms.TermNode w f l (more a (more b none))) h = (inr h.1, (inr h.2, tt))
operands_are (node forms.CastNode w f l (more t (more a none))) h = (inl h.0, (inr h.1, tt))
operands_are (node forms.UnaryNode w f l (more a none)) h = (unary_operand (prefix_in w) a h, tt)
operands_are (node forms.PostfixNode w f l (more a none)) h = (inr (postfix_part w (IsExpressionOf true a) h), tt)
operands_are (node forms.PostfixNode w f l (more a (more b none))) h = (inr h.1, (inr h.2, tt))
operands_are (node forms.CallNode w f l parts) h = expressions_operands parts h
operands_are t h = absurd h

pub operands_made : (ps : Forest) → AreTypesOr ps → AreOperands (plains_of ps)
unfolding plains_of
operands_made none h = tt
operands_made (more p ps) h = (by h.0, operands_made ps h.1)
  where
    by : IsType p ⊎ IsExpressionOf true p → OfExpressions (plain_of p) ⊎ IsType (plain_of p)
    by (inl t) = inr (type_plain p t)
    by (inr e) = inl (plain_made p e)

plains_many : (env : Env) (ps : Forest) → length (kinds_here env (plains_of ps)) ≡ many ps
unfolding plains_of
plains_many env none = refl
plains_many env (more p ps) = ap suc (plains_many env ps)

-- ---- what is called

inside_callee : (env : Env) (b : Bool) (q : List ℕ) (o : Option Meaning) →
    callee_by (record env { flags = b }) q o ≡ callee_by env q o
inside_callee env b q (Some (meanings.Function n)) = refl
inside_callee env b q (Some meanings.Undefined) = refl
inside_callee env b q (Some m) = refl
inside_callee env b q None = refl

-- in the arguments of a call
pub arguments_callee : (env : Env) (n q : List ℕ) → callee_of (in_arguments env n) q ≡ callee_of env q
arguments_callee env n q = inside_callee env (is_fence_callee (callee_of env n)) q (meaning_of env q)

pub inside_callees : (form : Form) → is_expression form ≡ true → (env : Env) (w q : List ℕ) →
    callee_of (inside env form w) q ≡ callee_of env q
unfolding inside
inside_callees forms.CallNode e env w q = arguments_callee env (name_in w) q
inside_callees forms.FunctionNode e env w q = absurd (false≢true e)
inside_callees forms.PrototypeNode e env w q = absurd (false≢true e)
inside_callees forms.BlockNode e env w q = absurd (false≢true e)
inside_callees forms.IfNode e env w q = absurd (false≢true e)
inside_callees forms.WhileNode e env w q = absurd (false≢true e)
inside_callees forms.DoNode e env w q = absurd (false≢true e)
inside_callees forms.ForNode e env w q = absurd (false≢true e)
inside_callees forms.SwitchNode e env w q = absurd (false≢true e)
inside_callees forms.DefaultNode e env w q = absurd (false≢true e)
inside_callees _ e env w q = refl

module _ (asked : Asked) (names : Names) (plain form : Env) (alike : Plainly names plain form)
    (alone : KnownAlone plain) where
  -- the same is called where this is visible
  abbrev CallsSame : Env → Type 0
  CallsSame env = (q : List ℕ) → callee_of env q ≡ callee_of plain q

  call_known : (q : List ℕ) (n : ℕ) (o : Option Callee) → callee_of plain q ≡ o → has_point q ≡ false →
      not (is_some o) ≡ false → given o (λ c. not (arity_fits c n)) ≡ false → CallsKnown form q n
  call_known q n None e p u m f i = absurd (false≢true (sym u))
  call_known q n (Some c) e p u m f i =
      let is : c ≡ known (intrinsics.Function f) = alone q (intrinsics.Function f) c i e in
      let there = callee_same names plain form q alike p (ap (λ z. not (is_some z)) e) in (
        there ∙ e ∙ ap Some is,
        by (nat_eq (arity_of f) n) (sym (ap (λ z. not (arity_fits z n)) is) ∙ m),
      )
    where
      by : (b : Bool) → not b ≡ false → b ≡ true
      by true h = refl
      by false h = absurd (false≢true (sym h))

  node_known : (env : Env) (g : Form) (w : List ℕ) (f l : ℕ) (parts : Forest) → CallsSame env →
      NoPoint (node g w f l parts) → Taken asked env roles.Other g w f (plains_of parts) →
      CallKnownBy form g w (many parts)
  node_known env forms.CallNode w f l parts s p t =
      let n = fine asked (seen env roles.Other forms.CallNode w f (plains_of parts)
      (kinds_here (inside env forms.CallNode w) (plains_of parts))) t.node' in
      call_known (name_in w) (many parts) (callee_of plain (name_in w)) refl p.0
      (sym (ap (λ z. not (is_some z)) (s (name_in w))) ∙ n.known)
      (sym (ap (λ z. given z (λ c. not (arity_fits c (many parts)))) (s (name_in w))) ∙
      sym (ap (λ z. given (callee_of env (name_in w)) (λ c. not (arity_fits c z)))
      (plains_many (inside env forms.CallNode w) parts)) ∙ n.counted)
  node_known env _ w f l parts s p t = tt

  all_known : (env : Env) (g : Form) (w : List ℕ) (f l : ℕ) (parts : Forest) → is_expression g ≡ true →
      AreTypesOr parts → CallsSame env → NoPoint (node g w f l parts) →
      SoundTree asked env roles.Other (node g w f l (plains_of parts)) →
      (SoundHere asked (inside env g w) (plains_of parts) → CallsSame (inside env g w) → CallsKnownIn form parts) →
      AllCallsKnown form (node g w f l parts)
  all_known env g w f l parts e o s p x k =
      let t = taken asked env roles.Other g w f l (plains_of parts) e (operands_made parts o) x in
      (node_known env g w f l parts s p t, k t.parts' (λ q. inside_callees g e env w q ∙ s q))

  type_known : (t : Syntax) → IsType t → AllCallsKnown form t
  type_known (node forms.TypeNode w f l none) h = (tt, tt)
  type_known (node forms.TypeNode w f l (more (node forms.SpaceNode w' f' l' none) none)) h = (tt, ((tt, tt), tt))
  type_known t h = absurd h

  postfix_known : (env : Env) (w : List ℕ) (f l : ℕ) (a : Syntax) (b : Bool) → IsExpressionOf true a →
      CallsSame env → NoPoint (node forms.PostfixNode w f l (more a none)) →
      SoundTree asked env roles.Other (if b then plain_of a else node forms.PostfixNode w f l (forest1 (plain_of a))) →
      (SoundTree asked env roles.Other (plain_of a) → AllCallsKnown form a) →
      AllCallsKnown form (node forms.PostfixNode w f l (more a none))
  unfolding plains_of inside
  postfix_known env w f l a true e s p x k = (tt, (k x, tt))
  postfix_known env w f l a false e s p x k =
      all_known env forms.PostfixNode w f l (more a none) refl (inr e, tt) s p x (λ y z. (k y.0, tt))

  part_known : (q : Syntax) → IsType q ⊎ IsExpressionOf true q → (IsExpressionOf true q → AllCallsKnown form q) →
      AllCallsKnown form q
  part_known q (inl h) k = type_known q h
  part_known q (inr h) k = k h

  mutual
    unfolding plain_of plains_of

    pub calls_known : (t : Syntax) (env : Env) → IsExpressionOf true t → NoPoint t → CallsSame env →
        SoundTree asked env roles.Other (plain_of t) → AllCallsKnown form t
    calls_known (node forms.PostfixNode w f l (more a none)) env h p s x =
        let e = postfix_part w (IsExpressionOf true a) h in
        postfix_known env w f l a (is_pointed w) e s p x (λ y. calls_known a env e p.1.0 s y)
    calls_known (node forms.TypeNode w f l parts) env h p s x = absurd h
    calls_known (node g w f l parts) env h p s x =
        let e = expression_form (node g w f l parts) h in
        let o = operands_are (node g w f l parts) h in
        all_known env g w f l parts e o s p x (λ y z. parts_known parts (inside env g w) o p.1 z y)

    parts_known : (ps : Forest) (env : Env) → AreTypesOr ps → NoPoints ps → CallsSame env →
        SoundHere asked env (plains_of ps) → CallsKnownIn form ps
    parts_known none env h p s x = tt
    parts_known (more q qs) env h p s x = (
      part_known q h.0 (λ e. calls_known q env e p.0 s x.0),
      parts_known qs env h.1 p.1 s x.1,
    )
