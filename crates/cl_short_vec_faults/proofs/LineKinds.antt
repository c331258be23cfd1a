-- The plain form of an expression has a kind where no node of it is at fault.
use Rattle.std.proofs.Common.{◌≡◌, ℕ, List, [], ◌∷◌, Option, Some, None, Bool, true, false, refl, ap, sym, ◌∙◌}
use Rattle.std.proofs.Common.{if◌then◌else◌, subst, inl, inr}
use Rattle.std.proofs.lemmas.Bool.{false≢true}
use Rattle.wg_num.specs.declared.types.IntType.TheVariants as types
use Rattle.cl_tree.specs.declared.tree.Form.{Form}
use Rattle.cl_tree.specs.declared.tree.Form.TheVariants as forms
use Rattle.cl_tree.specs.Syntax.{Syntax, node, Forest, none, more}
use Rattle.cl_tree.specs.Nodes.{forest1, forest2, forest3}
use Rattle.cl_meaning.specs.Spelling.{name_in, binary_in, setting_in, prefix_in, postfix_in, literal_in}
use Rattle.cl_meaning.specs.declared.operators.Prefix.{Prefix}
use Rattle.cl_meaning.specs.declared.operators.Prefix.TheVariants as prefixes
use Rattle.cl_meaning.specs.declared.kind.Kind.{Kind}
use Rattle.cl_meaning.specs.declared.kind.Role.{Role}
use Rattle.cl_meaning.specs.declared.kind.Role.TheVariants as roles
use Rattle.cl_meaning.specs.Environment.{Env}
use Rattle.cl_meaning.specs.Kinds.{is_some, on_one, name_kind, literal_kind, comma_kind, logic_kind, cast_kind}
use Rattle.cl_meaning.specs.Kinds.{prefix_kind}
use Rattle.cl_meaning.specs.Kinds.{number, kind_step, callee_of}
use Rattle.cl_meaning.specs.Visible.{in_arguments, inside, kind_of}
use Rattle.cl_meaning.specs.Faults.{Asked, given, lacks, misfits}
use Rattle.cl_check_sound.specs.Shape.{is_expression, IsType, PrefixOf, IsExpressionOf, AreExpressionsOf, OfExpressions}
use Rattle.cl_check_sound.specs.Shape.{AreOperands, indexes}
use Rattle.cl_check_sound.specs.Sound.{SoundTree}
use Rattle.cl_check_sound.proofs.Cases.{the_some}
use Rattle.cl_check_sound.proofs.Typed.{type_declares}
use Rattle.cl_check_sound.proofs.Plain.{SoundHere, kinds_here}
use Rattle.cl_short_vec.specs.Plain.{is_pointed}
use Rattle.cl_short_vec_faults.specs.PlainForm.{plain_of, plains_of}
use Rattle.cl_short_vec_faults.specs.Law.{AllGive}
use Rattle.cl_short_vec_faults.proofs.Building.{seen, NoFault, taken, Fine, fine, kind_here}
use Rattle.cl_short_vec_faults.proofs.Nodes.{is_call, one_kind, two_kinds, three_kinds}
use Rattle.cl_short_vec_faults.proofs.Naming.{give_inside}
use Rattle.cl_short_vec_faults.proofs.PlainForms.{plain_made, plains_made, type_plain, postfix_unpointed}
use Rattle.cl_short_vec_faults.proofs.PlainForms.{selected_pointed}
use Rattle.cl_short_vec_faults.proofs.Claims.{plain_here, plain_fine, plain_step}
use Rattle.cl_short_vec_faults.proofs.Calling.{call_here}
use Rattle.cl_short_vec_faults.proofs.Known.{IsKnown, not_false, pair_known, binary_known, choice_known, setting_known}
use Rattle.cl_short_vec_faults.proofs.Known.{prefix_known, postfix_known, index_known, somes, call_known}

type_kind : (env : Env) (t : Syntax) → IsType t → kind_of env t ≡ None
unfolding kind_of kind_step
type_kind env (node forms.TypeNode w f l none) h = refl
type_kind env (node forms.TypeNode w f l (more (node forms.SpaceNode w' f' l' none) none)) h = refl
type_kind env t h = absurd h

module _ (asked : Asked) (env : Env) (role : Role) where
  step_by : (b : Bool) (x y : Syntax) → b ≡ false → SoundTree asked env role (if b then x else y) →
      (SoundTree asked env role y → IsKnown (kind_of env y)) → IsKnown (kind_of env (if b then x else y))
  step_by false x y e so k = k so
  step_by true x y e so k = absurd (false≢true (sym e))

  selection_by : (b : Bool) (x y : Syntax) → b ≡ true → SoundTree asked env role (if b then x else y) →
      (SoundTree asked env role x → IsKnown (kind_of env x)) → IsKnown (kind_of env (if b then x else y))
  selection_by true x y e so k = k so
  selection_by false x y e so k = absurd (false≢true e)

module _ (asked : Asked) (env : Env) (role : Role) (form : Form) (w : List ℕ) (f l : ℕ) (e : is_expression form ≡ true)
    (c : is_call form ≡ false) where
  pub one_known : (a : Syntax) → OfExpressions a → SoundTree asked env role (node form w f l (forest1 a)) →
      (x : IsKnown (kind_of env a)) → (Fine asked (seen env role form w f (forest1 a) (Some x.0 ∷ [])) →
      IsKnown (kind_step env form w (forest1 a) (Some x.0 ∷ []))) → IsKnown (kind_of env (node form w f l (forest1 a)))
  one_known a h so x g =
      let ks = one_kind env a (Some x.0) x.1 in
      let k = g (plain_fine asked env role form w f l (forest1 a) e c (inl h, tt) so (Some x.0 ∷ []) ks) in
      (k.0, plain_step asked env role form w f l (forest1 a) e c (inl h, tt) so (Some x.0 ∷ []) ks ∙ k.1)

  pub two_known : (a b : Syntax) → OfExpressions a → OfExpressions b →
      SoundTree asked env role (node form w f l (forest2 a b)) →
      (x : IsKnown (kind_of env a)) (y : IsKnown (kind_of env b)) →
      (Fine asked (seen env role form w f (forest2 a b) (Some x.0 ∷ Some y.0 ∷ [])) →
      IsKnown (kind_step env form w (forest2 a b) (Some x.0 ∷ Some y.0 ∷ []))) →
      IsKnown (kind_of env (node form w f l (forest2 a b)))
  two_known a b h i so x y g =
      let ks = two_kinds env a b (Some x.0) (Some y.0) x.1 y.1 in
      let k = g (plain_fine asked env role form w f l (forest2 a b) e c (inl h, (inl i, tt)) so
      (Some x.0 ∷ Some y.0 ∷ []) ks) in (
        k.0,
        plain_step asked env role form w f l (forest2 a b) e c (inl h, (inl i, tt)) so
            (Some x.0 ∷ Some y.0 ∷ []) ks ∙ k.1,
      )

-- the kinds of arguments
pub record AllKnown (env : Env) (parts : Forest) : Type 0 where
  pub kinds' : List Kind
  pub known : kinds_here env parts ≡ somes kinds'

module _ (asked : Asked) where
  type_operand : (t : Syntax) (env : Env) (role : Role) (w : List ℕ) (f l : ℕ) → IsType t → prefix_in w ≡ Some
      prefixes.Size →
      SoundTree asked env role (node forms.UnaryNode w f l (forest1 t)) →
      IsKnown (kind_of env (node forms.UnaryNode w f l (forest1 t)))
  unfolding kind_step
  type_operand t env role w f l h e so = (
    number types.Ulong,
    plain_step asked env role forms.UnaryNode w f l (forest1 t) refl refl (inr h, tt) so (None ∷ [])
        (one_kind env t None (type_kind env t h)) ∙ ap (λ o. on_one o (λ p. prefix_kind p (None ∷ []))) e,
  )

  operand_known : (a : Syntax) (env : Env) (role : Role) (w : List ℕ) (f l : ℕ) (o : Option Prefix) →
      prefix_in w ≡ o → is_some o ≡ true → IsExpressionOf true a →
      SoundTree asked env role (node forms.UnaryNode w f l (forest1 (plain_of a))) →
      (SoundTree asked env roles.Other (plain_of a) → IsKnown (kind_of env (plain_of a))) →
      IsKnown (kind_of env (node forms.UnaryNode w f l (forest1 (plain_of a))))
  unfolding kind_step misfits
  operand_known a env role w f l o e i h so k =
      let here = plain_here asked env role forms.UnaryNode w f l (forest1 (plain_of a)) refl refl
      (inl (plain_made a h), tt) so in
      let x = k here.0 in
      one_known asked env role forms.UnaryNode w f l refl refl (plain_of a) (plain_made a h) so x
      (λ n. prefix_known (prefix_in w) x.0 (ap is_some e ∙ i) n.fit n.assignable n.written)

  prefix_operand : (o : Option Prefix) (a : Syntax) (env : Env) (role : Role) (w : List ℕ) (f l : ℕ) → prefix_in w ≡ o →
      PrefixOf o a (IsExpressionOf true a) →
      SoundTree asked env role (node forms.UnaryNode w f l (forest1 (plain_of a))) →
      (IsExpressionOf true a → SoundTree asked env roles.Other (plain_of a) → IsKnown (kind_of env (plain_of a))) →
      IsKnown (kind_of env (node forms.UnaryNode w f l (forest1 (plain_of a))))
  prefix_operand None a env role w f l e h so k = absurd h
  prefix_operand (Some prefixes.Size) a env role w f l e h so k =
      type_operand (plain_of a) env role w f l (type_plain a h) e so
  prefix_operand (Some (prefixes.Operator op)) a env role w f l e h so k =
      operand_known a env role w f l (Some (prefixes.Operator op)) e refl h so (k h)
  prefix_operand (Some (prefixes.Step op)) a env role w f l e h so k =
      operand_known a env role w f l (Some (prefixes.Step op)) e refl h so (k h)
  prefix_operand (Some prefixes.Address) a env role w f l e h so k =
      operand_known a env role w f l (Some prefixes.Address) e refl h so (k h)
  prefix_operand (Some prefixes.Content) a env role w f l e h so k =
      operand_known a env role w f l (Some prefixes.Content) e refl h so (k h)

  cast_operand : (t a : Syntax) (env : Env) (role : Role) (w : List ℕ) (f l : ℕ) → IsType t → OfExpressions a →
      SoundTree asked env role (node forms.CastNode w f l (forest2 t a)) →
      (SoundTree asked env roles.Other a → IsKnown (kind_of env a)) →
      IsKnown (kind_of env (node forms.CastNode w f l (forest2 t a)))
  unfolding kind_step misfits
  cast_operand t a env role w f l h m so k =
      let P = forest2 t a in
      let here = plain_here asked env role forms.CastNode w f l P refl refl (inr h, (inl m, tt)) so in
      let x = k here.1.0 in
      let ks : List (Option Kind) = None ∷ Some x.0 ∷ [] in
      let kp = two_kinds env t a None (Some x.0) (type_kind env t h) x.1 in
      let n = plain_fine asked env role forms.CastNode w f l P refl refl (inr h, (inl m, tt)) so ks kp in
      let d = type_declares asked env roles.Other t h here.0 in
      let j = the_some (cast_kind (Some d.0) x.0) (not_false (is_some (cast_kind (Some d.0) x.0))
      (ap (λ o. given o (λ y. lacks (cast_kind (Some y)) (Some x.0 ∷ []))) (sym d.1) ∙ n.fit)) in (
        j.0,
        plain_step asked env role forms.CastNode w f l P refl refl (inr h, (inl m, tt)) so ks kp ∙
            ap (λ o. cast_kind o x.0) d.1 ∙ j.1,
      )

  choice_operands : (c a b : Syntax) (env : Env) (role : Role) (w : List ℕ) (f l : ℕ) → OfExpressions c →
      OfExpressions a → OfExpressions b → SoundTree asked env role (node forms.CondNode w f l (forest3 c a b)) →
      IsKnown (kind_of env c) → IsKnown (kind_of env a) → IsKnown (kind_of env b) →
      IsKnown (kind_of env (node forms.CondNode w f l (forest3 c a b)))
  unfolding kind_step misfits
  choice_operands c a b env role w f l hc ha hb so z x y =
      let P = forest3 c a b in
      let h : AreOperands P = (inl hc, (inl ha, (inl hb, tt))) in
      let ks = Some z.0 ∷ Some x.0 ∷ Some y.0 ∷ [] in
      let kp = three_kinds env c a b (Some z.0) (Some x.0) (Some y.0) z.1 x.1 y.1 in
      let n = plain_fine asked env role forms.CondNode w f l P refl refl h so ks kp in
      let k = choice_known z.0 x.0 y.0 n.fit in
      (k.0, plain_step asked env role forms.CondNode w f l P refl refl h so ks kp ∙ k.1)

  call_operands : (parts : Forest) (env : Env) (role : Role) (w : List ℕ) (f l : ℕ) → AreOperands parts →
      SoundTree asked env role (node forms.CallNode w f l parts) → AllGive asked env →
      AllKnown (in_arguments env (name_in w)) parts → IsKnown (kind_of env (node forms.CallNode w f l parts))
  unfolding inside kind_step misfits
  call_operands parts env role w f l h so g x =
      let t = taken asked env role forms.CallNode w f l parts refl h so in
      let q = name_in w in
      let n = fine asked (seen env role forms.CallNode w f parts (somes x.kinds'))
      (subst (λ z. NoFault asked (seen env role forms.CallNode w f parts z)) x.known t.node') in
      let k = call_known asked q (callee_of env q) x.kinds' (g q) t.listed n.known n.counted n.passed in (
        k.0,
        kind_here env forms.CallNode w f l parts refl h ∙ ap (λ z. kind_step env forms.CallNode w parts z) x.known ∙
            k.1,
      )

  postfix_operand : (a : Syntax) (env : Env) (role : Role) (w : List ℕ) (f l : ℕ) → is_some (postfix_in w) ≡ true →
      indexes (postfix_in w) ≡ false → IsExpressionOf true a →
      SoundTree asked env role (node forms.PostfixNode w f l (forest1 (plain_of a))) →
      (SoundTree asked env roles.Other (plain_of a) → IsKnown (kind_of env (plain_of a))) →
      IsKnown (kind_of env (node forms.PostfixNode w f l (forest1 (plain_of a))))
  unfolding kind_step misfits
  postfix_operand a env role w f l i j h so k =
      let here = plain_here asked env role forms.PostfixNode w f l (forest1 (plain_of a)) refl refl
      (inl (plain_made a h), tt) so in
      let x = k here.0 in
      one_known asked env role forms.PostfixNode w f l refl refl (plain_of a) (plain_made a h) so x
      (λ n. (_, postfix_known (postfix_in w) x.0 i j n.assignable n.written))

  mutual
    unfolding plain_of plains_of kind_step misfits

    pub known_kind : (t : Syntax) (env : Env) (role : Role) → IsExpressionOf true t → AllGive asked env →
        SoundTree asked env role (plain_of t) → IsKnown (kind_of env (plain_of t))
    known_kind (node forms.NumberNode w f l none) env role h g so =
        let v = the_some (literal_in w) h in
        (_, plain_step asked env role forms.NumberNode w f l none refl refl tt so [] refl ∙ ap literal_kind v.1)
    known_kind (node forms.TruthNode w f l none) env role h g so =
        (_, plain_step asked env role forms.TruthNode w f l none refl refl tt so [] refl)
    known_kind (node forms.VariableNode w f l none) env role h g so =
        let n = plain_fine asked env role forms.VariableNode w f l none refl refl tt so [] refl in
        let k = the_some (name_kind env (name_in w)) (not_false (is_some (name_kind env (name_in w))) n.known) in
        (k.0, plain_step asked env role forms.VariableNode w f l none refl refl tt so [] refl ∙ k.1)
    known_kind (node forms.ParenNode w f l (more a none)) env role h g so =
        let here = plain_here asked env role forms.ParenNode w f l (forest1 (plain_of a)) refl refl
        (inl (plain_made a h), tt) so in
        let x = known_kind a env roles.Other h g here.0 in
        one_known asked env role forms.ParenNode w f l refl refl (plain_of a) (plain_made a h) so x (λ n. (x.0, refl))
    known_kind (node forms.ExprNode w f l (more a (more b none))) env role h g so =
        let P = forest2 (plain_of a) (plain_of b) in
        let here = plain_here asked env role forms.ExprNode w f l P refl refl
        (inl (plain_made a h.0), (inl (plain_made b h.1), tt)) so in
        let x = known_kind a env roles.Other h.0 g here.0 in
        let y = known_kind b env roles.Other h.1 g here.1.0 in
        two_known asked env role forms.ExprNode w f l refl refl (plain_of a) (plain_of b) (plain_made a h.0)
        (plain_made b h.1) so x y (λ n. pair_known comma_kind x.0 y.0 n.fit)
    known_kind (node forms.AssignNode w f l (more a (more b none))) env role h g so =
        let P = forest2 (plain_of a) (plain_of b) in
        let here = plain_here asked env role forms.AssignNode w f l P refl refl
        (inl (plain_made a h.1), (inl (plain_made b h.2), tt)) so in
        let x = known_kind a env roles.Other h.1 g here.0 in
        let y = known_kind b env roles.Other h.2 g here.1.0 in
        two_known asked env role forms.AssignNode w f l refl refl (plain_of a) (plain_of b) (plain_made a h.1)
        (plain_made b h.2) so x y (λ n. (
          _,
          setting_known (setting_in w) x.0 y.0 h.0 n.fit n.assignable n.written
              n.rooted,
        ))
    known_kind (node forms.CondNode w f l (more c (more a (more b none)))) env role h g so =
        let P = forest3 (plain_of c) (plain_of a) (plain_of b) in
        let here = plain_here asked env role forms.CondNode w f l P refl refl
        (inl (plain_made c h.0), (inl (plain_made a h.1), (inl (plain_made b h.2), tt))) so in
        choice_operands (plain_of c) (plain_of a) (plain_of b) env role w f l (plain_made c h.0) (plain_made a h.1)
        (plain_made b h.2) so (known_kind c env roles.Other h.0 g here.0) (known_kind a env roles.Other h.1 g here.1.0)
        (known_kind b env roles.Other h.2 g here.1.1.0)
    known_kind (node forms.OrNode w f l (more a (more b none))) env role h g so =
        let P = forest2 (plain_of a) (plain_of b) in
        let here = plain_here asked env role forms.OrNode w f l P refl refl
        (inl (plain_made a h.0), (inl (plain_made b h.1), tt)) so in
        let x = known_kind a env roles.Other h.0 g here.0 in
        let y = known_kind b env roles.Other h.1 g here.1.0 in
        two_known asked env role forms.OrNode w f l refl refl (plain_of a) (plain_of b) (plain_made a h.0)
        (plain_made b h.1) so x y (λ n. pair_known logic_kind x.0 y.0 n.fit)
    known_kind (node forms.AndNode w f l (more a (more b none))) env role h g so =
        let P = forest2 (plain_of a) (plain_of b) in
        let here = plain_here asked env role forms.AndNode w f l P refl refl
        (inl (plain_made a h.0), (inl (plain_made b h.1), tt)) so in
        let x = known_kind a env roles.Other h.0 g here.0 in
        let y = known_kind b env roles.Other h.1 g here.1.0 in
        two_known asked env role forms.AndNode w f l refl refl (plain_of a) (plain_of b) (plain_made a h.0)
        (plain_made b h.1) so x y (λ n. pair_known logic_kind x.0 y.0 n.fit)
    known_kind (node forms.BorNode w f l (more a (more b none))) env role h g so =
        let P = forest2 (plain_of a) (plain_of b) in
        let here = plain_here asked env role forms.BorNode w f l P refl refl
        (inl (plain_made a h.1), (inl (plain_made b h.2), tt)) so in
        let x = known_kind a env roles.Other h.1 g here.0 in
        let y = known_kind b env roles.Other h.2 g here.1.0 in
        two_known asked env role forms.BorNode w f l refl refl (plain_of a) (plain_of b) (plain_made a h.1)
        (plain_made b h.2) so x y (λ n. binary_known (binary_in w) x.0 y.0 h.0 n.fit)
    known_kind (node forms.BxorNode w f l (more a (more b none))) env role h g so =
        let P = forest2 (plain_of a) (plain_of b) in
        let here = plain_here asked env role forms.BxorNode w f l P refl refl
        (inl (plain_made a h.1), (inl (plain_made b h.2), tt)) so in
        let x = known_kind a env roles.Other h.1 g here.0 in
        let y = known_kind b env roles.Other h.2 g here.1.0 in
        two_known asked env role forms.BxorNode w f l refl refl (plain_of a) (plain_of b) (plain_made a h.1)
        (plain_made b h.2) so x y (λ n. binary_known (binary_in w) x.0 y.0 h.0 n.fit)
    known_kind (node forms.BandNode w f l (more a (more b none))) env role h g so =
        let P = forest2 (plain_of a) (plain_of b) in
        let here = plain_here asked env role forms.BandNode w f l P refl refl
        (inl (plain_made a h.1), (inl (plain_made b h.2), tt)) so in
        let x = known_kind a env roles.Other h.1 g here.0 in
        let y = known_kind b env roles.Other h.2 g here.1.0 in
        two_known asked env role forms.BandNode w f l refl refl (plain_of a) (plain_of b) (plain_made a h.1)
        (plain_made b h.2) so x y (λ n. binary_known (binary_in w) x.0 y.0 h.0 n.fit)
    known_kind (node forms.EqualNode w f l (more a (more b none))) env role h g so =
        let P = forest2 (plain_of a) (plain_of b) in
        let here = plain_here asked env role forms.EqualNode w f l P refl refl
        (inl (plain_made a h.1), (inl (plain_made b h.2), tt)) so in
        let x = known_kind a env roles.Other h.1 g here.0 in
        let y = known_kind b env roles.Other h.2 g here.1.0 in
        two_known asked env role forms.EqualNode w f l refl refl (plain_of a) (plain_of b) (plain_made a h.1)
        (plain_made b h.2) so x y (λ n. binary_known (binary_in w) x.0 y.0 h.0 n.fit)
    known_kind (node forms.OrderNode w f l (more a (more b none))) env role h g so =
        let P = forest2 (plain_of a) (plain_of b) in
        let here = plain_here asked env role forms.OrderNode w f l P refl refl
        (inl (plain_made a h.1), (inl (plain_made b h.2), tt)) so in
        let x = known_kind a env roles.Other h.1 g here.0 in
        let y = known_kind b env roles.Other h.2 g here.1.0 in
        two_known asked env role forms.OrderNode w f l refl refl (plain_of a) (plain_of b) (plain_made a h.1)
        (plain_made b h.2) so x y (λ n. binary_known (binary_in w) x.0 y.0 h.0 n.fit)
    known_kind (node forms.ShiftNode w f l (more a (more b none))) env role h g so =
        let P = forest2 (plain_of a) (plain_of b) in
        let here = plain_here asked env role forms.ShiftNode w f l P refl refl
        (inl (plain_made a h.1), (inl (plain_made b h.2), tt)) so in
        let x = known_kind a env roles.Other h.1 g here.0 in
        let y = known_kind b env roles.Other h.2 g here.1.0 in
        two_known asked env role forms.ShiftNode w f l refl refl (plain_of a) (plain_of b) (plain_made a h.1)
        (plain_made b h.2) so x y (λ n. binary_known (binary_in w) x.0 y.0 h.0 n.fit)
    known_kind (node forms.SumNode w f l (more a (more b none))) env role h g so =
        let P = forest2 (plain_of a) (plain_of b) in
        let here = plain_here asked env role forms.SumNode w f l P refl refl
        (inl (plain_made a h.1), (inl (plain_made b h.2), tt)) so in
        let x = known_kind a env roles.Other h.1 g here.0 in
        let y = known_kind b env roles.Other h.2 g here.1.0 in
        two_known asked env role forms.SumNode w f l refl refl (plain_of a) (plain_of b) (plain_made a h.1)
        (plain_made b h.2) so x y (λ n. binary_known (binary_in w) x.0 y.0 h.0 n.fit)
    known_kind (node forms.TermNode w f l (more a (more b none))) env role h g so =
        let P = forest2 (plain_of a) (plain_of b) in
        let here = plain_here asked env role forms.TermNode w f l P refl refl
        (inl (plain_made a h.1), (inl (plain_made b h.2), tt)) so in
        let x = known_kind a env roles.Other h.1 g here.0 in
        let y = known_kind b env roles.Other h.2 g here.1.0 in
        two_known asked env role forms.TermNode w f l refl refl (plain_of a) (plain_of b) (plain_made a h.1)
        (plain_made b h.2) so x y (λ n. binary_known (binary_in w) x.0 y.0 h.0 n.fit)
    known_kind (node forms.CastNode w f l (more t (more a none))) env role h g so =
        cast_operand (plain_of t) (plain_of a) env role w f l (type_plain t h.0) (plain_made a h.1) so
        (λ x. known_kind a env roles.Other h.1 g x)
    known_kind (node forms.UnaryNode w f l (more a none)) env role h g so =
        prefix_operand (prefix_in w) a env role w f l refl h so (λ e x. known_kind a env roles.Other e g x)
    known_kind (node forms.PostfixNode w f l (more a none)) env role (inl h) g so =
        step_by asked env role (is_pointed w) (plain_of a) (node forms.PostfixNode w f l (forest1 (plain_of a)))
        (postfix_unpointed w h.0) so (λ x. postfix_operand a env role w f l h.0 h.1 h.2 x (λ y. known_kind a env
        roles.Other h.2 g y))
    known_kind (node forms.PostfixNode w f l (more a none)) env role (inr h) g so =
        selection_by asked env role (is_pointed w) (plain_of a) (node forms.PostfixNode w f l (forest1 (plain_of a)))
        (selected_pointed w h.0) so (λ x. known_kind a env role h.1 g x)
    known_kind (node forms.PostfixNode w f l (more a (more b none))) env role h g so =
        let P = forest2 (plain_of a) (plain_of b) in
        let here = plain_here asked env role forms.PostfixNode w f l P refl refl
        (inl (plain_made a h.1), (inl (plain_made b h.2), tt)) so in
        let x = known_kind a env roles.Other h.1 g here.0 in
        let y = known_kind b env roles.Other h.2 g here.1.0 in
        two_known asked env role forms.PostfixNode w f l refl refl (plain_of a) (plain_of b) (plain_made a h.1)
        (plain_made b h.2) so x y (λ n. (index_known (postfix_in w) x.0 y.0 h.0 n.fit).0)
    known_kind (node forms.CallNode w f l parts) env role h g so =
        let here = call_here asked env role w f l (plains_of parts) (plains_made parts h) so in
        call_operands (plains_of parts) env role w f l (plains_made parts h) so g
        (known_kinds parts (in_arguments env (name_in w)) h (give_inside asked env (name_in w) g) here.0)
    known_kind t env role h g so = absurd h

    known_kinds : (ps : Forest) (env : Env) → AreExpressionsOf true ps → AllGive asked env →
        SoundHere asked env (plains_of ps) → AllKnown env (plains_of ps)
    known_kinds none env h g so = record { kinds' = []; known = refl }
    known_kinds (more p ps) env h g so =
        let x = known_kind p env roles.Other h.0 g so.0 in
        let y = known_kinds ps env h.1 g so.1 in record {
          kinds' = x.0 ∷ y.kinds';
          known = ap (λ z. z ∷ kinds_here env (plains_of ps)) x.1 ∙ ap (λ z. Some x.0 ∷ z) y.known;
        }
