-- The law on expressions, by induction on the expression.
use Rattle.std.proofs.Common.{◌≡◌, ℕ, List, [], Option, None, Some, Bool, true, false, not, refl, ap, sym, ◌∙◌, ◌&&◌}
use Rattle.std.proofs.Common.{if◌then◌else◌, subst, inl, inr}
use Rattle.std.proofs.lemmas.Bool.{false≢true}
use Rattle.cl_tree.specs.declared.tree.Form.TheVariants as forms
use Rattle.cl_tree.specs.Syntax.{Syntax, node, Forest, none, more}
use Rattle.cl_tree.specs.Nodes.{forest1, forest2, forest3}
use Rattle.cl_meaning.specs.Spelling.{name_in, prefix_in, postfix_in, intrinsic_in}
use Rattle.cl_meaning.specs.declared.operators.Postfix.{Postfix}
use Rattle.cl_meaning.specs.declared.kind.Role.{Role}
use Rattle.cl_meaning.specs.declared.kind.Role.TheVariants as roles
use Rattle.cl_meaning.specs.Environment.{Env, meaning_of}
use Rattle.cl_meaning.specs.Kinds.{is_some, callee_of, are_flags_alone}
use Rattle.cl_meaning.specs.Visible.{is_fence_callee, in_arguments}
use Rattle.cl_meaning.specs.Faults.{Asked}
use Rattle.cl_check_sound.specs.Shape.{IsExpressionOf, AreExpressionsOf, indexes}
use Rattle.cl_check_sound.specs.Sound.{SoundTree}
use Rattle.cl_check_sound.proofs.Plain.{SoundHere}
use Rattle.cl_short_vec.specs.declared.nodes.Span.{Span}
use Rattle.cl_short_vec.specs.declared.kinds.Kind.TheVariants.{Other}
use Rattle.cl_short_vec.specs.declared.roles.Role as vector_roles
use Rattle.cl_short_vec.specs.declared.roles.Role.TheVariants.{Free, Used, Target, Base, Listed, Typed}
use Rattle.cl_short_vec.specs.Types.{selection_in}
use Rattle.cl_short_vec.specs.Plain.{is_pointed}
use Rattle.cl_short_vec.specs.Kinds.{Names, calls_fence, with_fences, within, later, is_vector, postfix_kind, cast_kind}
use Rattle.cl_short_vec.specs.Marks.{mark, unmarked, marking, kind_at, kind_by, marked, marked_parts}
use Rattle.cl_short_vec.specs.Marks.{vector_among, front_type}
use Rattle.cl_short_vec.specs.Roles.{is_place, is_paren, back_form, role_of, paren_role, selected_role}
use Rattle.cl_short_vec.specs.Faults.{components_of, refusals}
use Rattle.cl_short_vec.specs.Order.{count_in, under}
use Rattle.cl_short_vec.specs.Scalar.{postfixed, scalar, scalars, component_at}
use Rattle.cl_short_vec.proofs.Small.{SmallKind, mark_small, marked_small}
use Rattle.cl_short_vec_faults.specs.PlainForm.{plain_of, plains_of}
use Rattle.cl_short_vec_faults.specs.Plainly.{NoPoint, NoPoints, Plainly}
use Rattle.cl_short_vec_faults.specs.Parts.{KnownAlone}
use Rattle.cl_short_vec_faults.specs.Law.{Called, is_of_vectors, KindAs, ExpressionsFollow, ComponentsFollow}
use Rattle.cl_short_vec_faults.proofs.Naming.{callee_same, plainly_inside, give_inside, alone_inside, other_callee}
use Rattle.cl_short_vec_faults.proofs.Naming.{fence_callee}
use Rattle.cl_short_vec_faults.proofs.Flags.{fences_fenced}
use Rattle.cl_short_vec_faults.proofs.FenceArguments.{fence_arguments}
use Rattle.cl_short_vec_faults.proofs.Refused.{AllStay, parts_stay, part_none, apart, inner_apart, used_free}
use Rattle.cl_short_vec_faults.proofs.Refused.{paren_inner}
use Rattle.cl_short_vec_faults.proofs.Refused.{item_free, free_apart, free_no_vector, expression_names}
use Rattle.cl_short_vec_faults.proofs.PlainForms.{plain_made, plains_made, postfix_unpointed, unpointed_selection}
use Rattle.cl_short_vec_faults.proofs.PlainForms.{selected_pointed, selection_some}
use Rattle.cl_short_vec_faults.proofs.Places.{place_form, index_place, selected_place}
use Rattle.cl_short_vec_faults.proofs.Claims.{Has, Claim, plain_here, operator_claim, and_claim, or_claim, comma_claim}
use Rattle.cl_short_vec_faults.proofs.Claims.{choice_claim}
use Rattle.cl_short_vec_faults.proofs.Settings.{sum_claim, set_claim}
use Rattle.cl_short_vec_faults.proofs.Prefixes.{type_kept, cast_claim}
use Rattle.cl_short_vec_faults.proofs.Steps.{paren_claim, step_claim}
use Rattle.cl_short_vec_faults.proofs.Calling.{AllHave, call_here, call_claim}
use Rattle.cl_short_vec_faults.proofs.Selected.{selected_part, component_there}
use Rattle.cl_short_vec_faults.proofs.Placing.{Placed, variable_placed, selected_other}
use Rattle.cl_short_vec_faults.proofs.Operands.{small_names, number_claim, truth_claim, variable_claim, type_no_vector}
use Rattle.cl_short_vec_faults.proofs.Operands.{unary_claim, behind_step, behind_selection, called_other, cast_other}
use Rattle.cl_short_vec_faults.proofs.Operands.{scalar_call, one_more, behind_type, index_other}
use Rattle.cl_short_vec_faults.proofs.PlacedParts.{unary_placed, index_placed, paren_placed, selection_placed}

small_at : (t : Syntax) (names : Names) (p s : Env) → Plainly names p s → SmallKind (kind_at (marked names t))
small_at t names p s pl = mark_small (marked names t) (marked_small t names (small_names names p s pl))

indexes_some : (o : Option Postfix) → indexes o ≡ true → is_some o ≡ true
indexes_some None h = absurd (false≢true h)
indexes_some (Some q) h = refl

-- the arguments of a call: those of a fence, and any others
module _ (asked : Asked) (p s : Env) (names : Names) (q : List ℕ) (parts : Forest) (h : AreExpressionsOf true parts)
    (alone : KnownAlone p) (owner : s.owner ≡ p.owner) (same : callee_of s q ≡ callee_of p q)
    (there : not (is_some (callee_of p q)) ≡ false) (so : SoundHere asked (in_arguments p q) (plains_of parts))
    (flags : is_fence_callee (callee_of p q) ≡ true → are_flags_alone (plains_of parts) ≡ true)
    (others : AllStay (marked_parts forms.CallNode parts names true parts) → is_fence_callee (callee_of p q) ≡ false →
    AllHave asked (in_arguments p q) (in_arguments s q) (plains_of parts)
    (scalars (marked_parts forms.CallNode parts names true parts))) where
  arguments : (b : Bool) → calls_fence (intrinsic_in q) ≡ b →
      AllStay (marked_parts forms.CallNode parts (if b then with_fences names else names) true parts) →
      AllHave asked (in_arguments p q) (in_arguments s q) (plains_of parts)
      (scalars (marked_parts forms.CallNode parts (if b then with_fences names else names) true parts)) ×
      (is_fence_callee (callee_of s q) ≡ true →
      are_flags_alone (scalars (marked_parts forms.CallNode parts (if b then with_fences names else names) true parts)) ≡
      true)
  arguments true e st =
      let f = fence_callee p q alone e there in
      let x = fence_arguments asked (in_arguments p q) (in_arguments s q) f (ap is_fence_callee same ∙ f) owner parts
      parts (with_fences names) h (fences_fenced names) st (flags f) so in
      (x.0, λ i. x.1)
  arguments false e st =
      let o = other_callee p q (meaning_of p q) e in
      (others st o, λ i. absurd (false≢true (sym o ∙ (sym (ap is_fence_callee same) ∙ i))))

mutual
  unfolding scalar scalars marked marked_parts kind_by plain_of plains_of role_of

  pub claim : (asked : Asked) (p s : Env) (names : Names) (role : vector_roles.Role) (place : Role) (t : Syntax) →
      IsExpressionOf true t → NoPoint t → Plainly names p s → Called asked p → refusals role (marked names t) ≡ [] →
      is_of_vectors role (marked names t) ≡ false → SoundTree asked p place (plain_of t) →
      Claim asked p s place (marked names t) (plain_of t)
  claim asked p s names role place (node forms.NumberNode w f l none) h n pl g r v so =
      number_claim asked p s place w f l pl.owner h so
  claim asked p s names role place (node forms.TruthNode w f l none) h n pl g r v so =
      truth_claim asked p s place w f l pl.owner so
  claim asked p s names role place (node forms.VariableNode w f l none) h n pl g r v so =
      let t = node forms.VariableNode w f l none in
      let d = apart role t (names (name_in w)) unmarked v in
      variable_claim asked p s names place w f l pl n.0 d.0 so
  claim asked p s names role place (node forms.ParenNode w f l (more a none)) h n pl g r v so =
      let t = node forms.ParenNode w f l (more a none) in
      let m = marked names a in
      let d = apart role t (kind_at m) (marking m unmarked) v in
      let q = paren_role role (kind_at m) in
      let here = plain_here asked p place forms.ParenNode w f l (forest1 (plain_of a)) refl refl
      (inl (plain_made a h), tt) so in
      paren_claim asked p s place w f l (kind_at m) (plain_of a) (scalar m) pl.owner
      (claim asked p s names q roles.Other a h n.1.0 pl g (part_none role t (kind_at m) m r)
      (inner_apart q m (paren_inner role (kind_at m) d.1) d.0) here.0) so
  claim asked p s names role place (node forms.ExprNode w f l (more a (more b none))) h n pl g r v so =
      let t = node forms.ExprNode w f l (more a (more b none)) in
      let names' = later forms.ExprNode (more a (more b none)) names true a in
      let m = marked names a in
      let m' = marked names' b in
      let k = kind_at (marked names t) in
      let ms = marking m (marking m' unmarked) in
      let d = apart role t k ms v in
      let stay = parts_stay role t k ms (λ x y q. item_free role x d.1) r in
      let pl' = subst (λ z. Plainly z p s) (sym (expression_names names a h.0)) pl in
      let here = plain_here asked p place forms.ExprNode w f l (forest2 (plain_of a) (plain_of b)) refl refl
      (inl (plain_made a h.0), (inl (plain_made b h.1), tt)) so in
      let x = claim asked p s names Free roles.Other a h.0 n.1.0 pl g stay.0 (free_apart a names h.0 stay.0) here.0 in
      let y = claim asked p s names' Free roles.Other b h.1 n.1.1.0 pl' g stay.1.0
      (free_apart b names' h.1 stay.1.0) here.1.0 in
      comma_claim asked p s place w f l (kind_at m) (kind_at m') (plain_of a) (plain_of b) (scalar m) (scalar m') x y
      pl.owner so
  claim asked p s names role place (node forms.AssignNode w f l (more a (more b none))) h n pl g r v so =
      let t = node forms.AssignNode w f l (more a (more b none)) in
      let names' = later forms.AssignNode (more a (more b none)) names true a in
      let m = marked names a in
      let m' = marked names' b in
      let k = kind_at (marked names t) in
      let ms = marking m (marking m' unmarked) in
      let d = apart role t k ms v in
      let stay = parts_stay role t k ms (λ x y q. ap (λ z. if z then (if x then Target else Used) else Free) d.2) r in
      let pl' = subst (λ z. Plainly z p s) (sym (expression_names names a h.1)) pl in
      let here = plain_here asked p place forms.AssignNode w f l (forest2 (plain_of a) (plain_of b)) refl refl
      (inl (plain_made a h.1), (inl (plain_made b h.2), tt)) so in
      let x = claim asked p s names Free roles.Other a h.1 n.1.0 pl g stay.0 (free_apart a names h.1 stay.0) here.0 in
      let y = claim asked p s names' Free roles.Other b h.2 n.1.1.0 pl' g stay.1.0
      (free_apart b names' h.2 stay.1.0) here.1.0 in
      set_claim asked p s place w f l (more a (more b none)) (plain_of a) (plain_of b) (scalar m) (scalar m') h.0
      pl.owner
      (kind_at m) (kind_at m') x y so (small_at a names p s pl)
  claim asked p s names role place (node forms.OrNode w f l (more a (more b none))) h n pl g r v so =
      let t = node forms.OrNode w f l (more a (more b none)) in
      let names' = later forms.OrNode (more a (more b none)) names true a in
      let m = marked names a in
      let m' = marked names' b in
      let k = kind_at (marked names t) in
      let ms = marking m (marking m' unmarked) in
      let d = apart role t k ms v in
      let stay = parts_stay role t k ms (λ x y q. used_free k d.0) r in
      let pl' = subst (λ z. Plainly z p s) (sym (expression_names names a h.0)) pl in
      let here = plain_here asked p place forms.OrNode w f l (forest2 (plain_of a) (plain_of b)) refl refl
      (inl (plain_made a h.0), (inl (plain_made b h.1), tt)) so in
      let x = claim asked p s names Free roles.Other a h.0 n.1.0 pl g stay.0 (free_apart a names h.0 stay.0) here.0 in
      let y = claim asked p s names' Free roles.Other b h.1 n.1.1.0 pl' g stay.1.0
      (free_apart b names' h.1 stay.1.0) here.1.0 in
      or_claim asked p s place w f l (kind_at m) (kind_at m') (plain_of a) (plain_of b) (scalar m) (scalar m') x y
      pl.owner
      so
  claim asked p s names role place (node forms.AndNode w f l (more a (more b none))) h n pl g r v so =
      let t = node forms.AndNode w f l (more a (more b none)) in
      let names' = later forms.AndNode (more a (more b none)) names true a in
      let m = marked names a in
      let m' = marked names' b in
      let k = kind_at (marked names t) in
      let ms = marking m (marking m' unmarked) in
      let d = apart role t k ms v in
      let stay = parts_stay role t k ms (λ x y q. used_free k d.0) r in
      let pl' = subst (λ z. Plainly z p s) (sym (expression_names names a h.0)) pl in
      let here = plain_here asked p place forms.AndNode w f l (forest2 (plain_of a) (plain_of b)) refl refl
      (inl (plain_made a h.0), (inl (plain_made b h.1), tt)) so in
      let x = claim asked p s names Free roles.Other a h.0 n.1.0 pl g stay.0 (free_apart a names h.0 stay.0) here.0 in
      let y = claim asked p s names' Free roles.Other b h.1 n.1.1.0 pl' g stay.1.0
      (free_apart b names' h.1 stay.1.0) here.1.0 in
      and_claim asked p s place w f l (kind_at m) (kind_at m') (plain_of a) (plain_of b) (scalar m) (scalar m') x y
      pl.owner
      so
  claim asked p s names role place (node forms.BorNode w f l (more a (more b none))) h n pl g r v so =
      let t = node forms.BorNode w f l (more a (more b none)) in
      let names' = later forms.BorNode (more a (more b none)) names true a in
      let m = marked names a in
      let m' = marked names' b in
      let k = kind_at (marked names t) in
      let ms = marking m (marking m' unmarked) in
      let d = apart role t k ms v in
      let stay = parts_stay role t k ms (λ x y q. used_free k d.0) r in
      let pl' = subst (λ z. Plainly z p s) (sym (expression_names names a h.1)) pl in
      let here = plain_here asked p place forms.BorNode w f l (forest2 (plain_of a) (plain_of b)) refl refl
      (inl (plain_made a h.1), (inl (plain_made b h.2), tt)) so in
      let x = claim asked p s names Free roles.Other a h.1 n.1.0 pl g stay.0 (free_apart a names h.1 stay.0) here.0 in
      let y = claim asked p s names' Free roles.Other b h.2 n.1.1.0 pl' g stay.1.0
      (free_apart b names' h.2 stay.1.0) here.1.0 in
      operator_claim asked p s place forms.BorNode refl w f l (kind_at m) (kind_at m') (plain_of a) (plain_of b)
      (scalar m)
      (scalar m') x y so h.0 pl.owner (free_no_vector a names h.1 stay.0) (free_no_vector b names' h.2 stay.1.0)
  claim asked p s names role place (node forms.BxorNode w f l (more a (more b none))) h n pl g r v so =
      let t = node forms.BxorNode w f l (more a (more b none)) in
      let names' = later forms.BxorNode (more a (more b none)) names true a in
      let m = marked names a in
      let m' = marked names' b in
      let k = kind_at (marked names t) in
      let ms = marking m (marking m' unmarked) in
      let d = apart role t k ms v in
      let stay = parts_stay role t k ms (λ x y q. used_free k d.0) r in
      let pl' = subst (λ z. Plainly z p s) (sym (expression_names names a h.1)) pl in
      let here = plain_here asked p place forms.BxorNode w f l (forest2 (plain_of a) (plain_of b)) refl refl
      (inl (plain_made a h.1), (inl (plain_made b h.2), tt)) so in
      let x = claim asked p s names Free roles.Other a h.1 n.1.0 pl g stay.0 (free_apart a names h.1 stay.0) here.0 in
      let y = claim asked p s names' Free roles.Other b h.2 n.1.1.0 pl' g stay.1.0
      (free_apart b names' h.2 stay.1.0) here.1.0 in
      operator_claim asked p s place forms.BxorNode refl w f l (kind_at m) (kind_at m') (plain_of a) (plain_of b)
      (scalar m)
      (scalar m') x y so h.0 pl.owner (free_no_vector a names h.1 stay.0) (free_no_vector b names' h.2 stay.1.0)
  claim asked p s names role place (node forms.BandNode w f l (more a (more b none))) h n pl g r v so =
      let t = node forms.BandNode w f l (more a (more b none)) in
      let names' = later forms.BandNode (more a (more b none)) names true a in
      let m = marked names a in
      let m' = marked names' b in
      let k = kind_at (marked names t) in
      let ms = marking m (marking m' unmarked) in
      let d = apart role t k ms v in
      let stay = parts_stay role t k ms (λ x y q. used_free k d.0) r in
      let pl' = subst (λ z. Plainly z p s) (sym (expression_names names a h.1)) pl in
      let here = plain_here asked p place forms.BandNode w f l (forest2 (plain_of a) (plain_of b)) refl refl
      (inl (plain_made a h.1), (inl (plain_made b h.2), tt)) so in
      let x = claim asked p s names Free roles.Other a h.1 n.1.0 pl g stay.0 (free_apart a names h.1 stay.0) here.0 in
      let y = claim asked p s names' Free roles.Other b h.2 n.1.1.0 pl' g stay.1.0
      (free_apart b names' h.2 stay.1.0) here.1.0 in
      operator_claim asked p s place forms.BandNode refl w f l (kind_at m) (kind_at m') (plain_of a) (plain_of b)
      (scalar m)
      (scalar m') x y so h.0 pl.owner (free_no_vector a names h.1 stay.0) (free_no_vector b names' h.2 stay.1.0)
  claim asked p s names role place (node forms.EqualNode w f l (more a (more b none))) h n pl g r v so =
      let t = node forms.EqualNode w f l (more a (more b none)) in
      let names' = later forms.EqualNode (more a (more b none)) names true a in
      let m = marked names a in
      let m' = marked names' b in
      let k = kind_at (marked names t) in
      let ms = marking m (marking m' unmarked) in
      let d = apart role t k ms v in
      let stay = parts_stay role t k ms (λ x y q. used_free k d.0) r in
      let pl' = subst (λ z. Plainly z p s) (sym (expression_names names a h.1)) pl in
      let here = plain_here asked p place forms.EqualNode w f l (forest2 (plain_of a) (plain_of b)) refl refl
      (inl (plain_made a h.1), (inl (plain_made b h.2), tt)) so in
      let x = claim asked p s names Free roles.Other a h.1 n.1.0 pl g stay.0 (free_apart a names h.1 stay.0) here.0 in
      let y = claim asked p s names' Free roles.Other b h.2 n.1.1.0 pl' g stay.1.0
      (free_apart b names' h.2 stay.1.0) here.1.0 in
      operator_claim asked p s place forms.EqualNode refl w f l (kind_at m) (kind_at m') (plain_of a) (plain_of b)
      (scalar m)
      (scalar m') x y so h.0 pl.owner (free_no_vector a names h.1 stay.0) (free_no_vector b names' h.2 stay.1.0)
  claim asked p s names role place (node forms.OrderNode w f l (more a (more b none))) h n pl g r v so =
      let t = node forms.OrderNode w f l (more a (more b none)) in
      let names' = later forms.OrderNode (more a (more b none)) names true a in
      let m = marked names a in
      let m' = marked names' b in
      let k = kind_at (marked names t) in
      let ms = marking m (marking m' unmarked) in
      let d = apart role t k ms v in
      let stay = parts_stay role t k ms (λ x y q. used_free k d.0) r in
      let pl' = subst (λ z. Plainly z p s) (sym (expression_names names a h.1)) pl in
      let here = plain_here asked p place forms.OrderNode w f l (forest2 (plain_of a) (plain_of b)) refl refl
      (inl (plain_made a h.1), (inl (plain_made b h.2), tt)) so in
      let x = claim asked p s names Free roles.Other a h.1 n.1.0 pl g stay.0 (free_apart a names h.1 stay.0) here.0 in
      let y = claim asked p s names' Free roles.Other b h.2 n.1.1.0 pl' g stay.1.0
      (free_apart b names' h.2 stay.1.0) here.1.0 in
      operator_claim asked p s place forms.OrderNode refl w f l (kind_at m) (kind_at m') (plain_of a) (plain_of b)
      (scalar m)
      (scalar m') x y so h.0 pl.owner (free_no_vector a names h.1 stay.0) (free_no_vector b names' h.2 stay.1.0)
  claim asked p s names role place (node forms.ShiftNode w f l (more a (more b none))) h n pl g r v so =
      let t = node forms.ShiftNode w f l (more a (more b none)) in
      let names' = later forms.ShiftNode (more a (more b none)) names true a in
      let m = marked names a in
      let m' = marked names' b in
      let k = kind_at (marked names t) in
      let ms = marking m (marking m' unmarked) in
      let d = apart role t k ms v in
      let stay = parts_stay role t k ms (λ x y q. used_free k d.0) r in
      let pl' = subst (λ z. Plainly z p s) (sym (expression_names names a h.1)) pl in
      let here = plain_here asked p place forms.ShiftNode w f l (forest2 (plain_of a) (plain_of b)) refl refl
      (inl (plain_made a h.1), (inl (plain_made b h.2), tt)) so in
      let x = claim asked p s names Free roles.Other a h.1 n.1.0 pl g stay.0 (free_apart a names h.1 stay.0) here.0 in
      let y = claim asked p s names' Free roles.Other b h.2 n.1.1.0 pl' g stay.1.0
      (free_apart b names' h.2 stay.1.0) here.1.0 in
      operator_claim asked p s place forms.ShiftNode refl w f l (kind_at m) (kind_at m') (plain_of a) (plain_of b)
      (scalar m)
      (scalar m') x y so h.0 pl.owner (free_no_vector a names h.1 stay.0) (free_no_vector b names' h.2 stay.1.0)
  claim asked p s names role place (node forms.TermNode w f l (more a (more b none))) h n pl g r v so =
      let t = node forms.TermNode w f l (more a (more b none)) in
      let names' = later forms.TermNode (more a (more b none)) names true a in
      let m = marked names a in
      let m' = marked names' b in
      let k = kind_at (marked names t) in
      let ms = marking m (marking m' unmarked) in
      let d = apart role t k ms v in
      let stay = parts_stay role t k ms (λ x y q. used_free k d.0) r in
      let pl' = subst (λ z. Plainly z p s) (sym (expression_names names a h.1)) pl in
      let here = plain_here asked p place forms.TermNode w f l (forest2 (plain_of a) (plain_of b)) refl refl
      (inl (plain_made a h.1), (inl (plain_made b h.2), tt)) so in
      let x = claim asked p s names Free roles.Other a h.1 n.1.0 pl g stay.0 (free_apart a names h.1 stay.0) here.0 in
      let y = claim asked p s names' Free roles.Other b h.2 n.1.1.0 pl' g stay.1.0
      (free_apart b names' h.2 stay.1.0) here.1.0 in
      operator_claim asked p s place forms.TermNode refl w f l (kind_at m) (kind_at m') (plain_of a) (plain_of b)
      (scalar m)
      (scalar m') x y so h.0 pl.owner (free_no_vector a names h.1 stay.0) (free_no_vector b names' h.2 stay.1.0)
  claim asked p s names role place (node forms.SumNode w f l (more a (more b none))) h n pl g r v so =
      let t = node forms.SumNode w f l (more a (more b none)) in
      let names' = later forms.SumNode (more a (more b none)) names true a in
      let m = marked names a in
      let m' = marked names' b in
      let k = kind_at (marked names t) in
      let ms = marking m (marking m' unmarked) in
      let d = apart role t k ms v in
      let stay = parts_stay role t k ms (λ x y q. used_free k d.0) r in
      let pl' = subst (λ z. Plainly z p s) (sym (expression_names names a h.1)) pl in
      let here = plain_here asked p place forms.SumNode w f l (forest2 (plain_of a) (plain_of b)) refl refl
      (inl (plain_made a h.1), (inl (plain_made b h.2), tt)) so in
      let x = claim asked p s names Free roles.Other a h.1 n.1.0 pl g stay.0 (free_apart a names h.1 stay.0) here.0 in
      let y = claim asked p s names' Free roles.Other b h.2 n.1.1.0 pl' g stay.1.0
      (free_apart b names' h.2 stay.1.0) here.1.0 in
      sum_claim asked p s place w f l (more a (more b none)) (plain_of a) (plain_of b) (scalar m) (scalar m') h.0
      pl.owner
      (kind_at m) (kind_at m') x y so (free_no_vector a names h.1 stay.0) (free_no_vector b names' h.2 stay.1.0)
      (small_at a names p s pl) (small_at b names' p s pl')
  claim asked p s names role place (node forms.CondNode w f l (more c (more a (more b none)))) h n pl g r v so =
      let ps = more c (more a (more b none)) in
      let t = node forms.CondNode w f l ps in
      let names' = later forms.CondNode ps names true c in
      let names'' = later forms.CondNode ps names' false a in
      let i = marked names c in
      let m = marked names' a in
      let m' = marked names'' b in
      let ms = marking i (marking m (marking m' unmarked)) in
      let stay = parts_stay role t (Other true) ms (λ x y q. refl) r in
      let pl' = subst (λ z. Plainly z p s) (sym (expression_names names c h.0)) pl in
      let pl'' = subst (λ z. Plainly z p s) (sym (expression_names names' a h.1)) pl' in
      let here = plain_here asked p place forms.CondNode w f l (forest3 (plain_of c) (plain_of a) (plain_of b)) refl
      refl
      (inl (plain_made c h.0), (inl (plain_made a h.1), (inl (plain_made b h.2), tt))) so in
      choice_claim asked p s place w f l (kind_at i) (kind_at m) (kind_at m') (plain_of c) (plain_of a) (plain_of b)
      (scalar i) (scalar m) (scalar m') (claim asked p s names Free roles.Other c h.0 n.1.0 pl g stay.0
      (free_apart c names h.0 stay.0) here.0) (claim asked p s names' Free roles.Other a h.1 n.1.1.0 pl' g stay.1.0
      (free_apart a names' h.1 stay.1.0) here.1.0) (claim asked p s names'' Free roles.Other b h.2 n.1.1.1.0 pl'' g
      stay.1.1.0 (free_apart b names'' h.2 stay.1.1.0) here.1.1.0) pl.owner so
  claim asked p s names role place (node forms.CastNode w f l (more c (more a none))) h n pl g r v so =
      let ps = more c (more a none) in
      let t = node forms.CastNode w f l ps in
      let names' = later forms.CastNode ps names true c in
      let i = marked names c in
      let m = marked names' a in
      let ms = marking i (marking m unmarked) in
      let k = kind_at (marked names t) in
      let d = apart role t k ms v in
      let nothing = cast_other (front_type ms) d.0 in
      let stay = parts_stay role t k ms (λ x y q. ap (λ o. if is_some o && is_paren (back_form ms) then
      (if x then Typed else Listed) else Free) nothing) r in
      let pl' = subst (λ z. Plainly z p s) (sym (behind_type names c h.0)) pl in
      let kept = type_kept c names h.0 (type_no_vector c names h.0 stay.0) in
      let so' = subst (λ z. SoundTree asked p place (node forms.CastNode w f l (forest2 z (plain_of a)))) kept.1 so in
      let here = plain_here asked p place forms.CastNode w f l (forest2 c (plain_of a)) refl refl
      (inr h.0, (inl (plain_made a h.1), tt)) so' in
      let x = claim asked p s names' Free roles.Other a h.1 n.1.1.0 pl' g stay.1.0 (free_apart a names' h.1 stay.1.0)
      here.1.0 in
      subst (λ z. Has asked p s place (cast_kind z) (node forms.CastNode w f l (forest2 (plain_of c) (plain_of a)))
      (node forms.CastNode w f l (forest2 (scalar i) (scalar m)))) (sym nothing)
      (subst (λ z. Has asked p s place (Other true) (node forms.CastNode w f l (forest2 z (plain_of a)))
      (node forms.CastNode w f l (forest2 (scalar i) (scalar m)))) (sym kept.1)
      (subst (λ z. Has asked p s place (Other true) (node forms.CastNode w f l (forest2 c (plain_of a)))
      (node forms.CastNode w f l (forest2 z (scalar m)))) (sym kept.0)
      (cast_claim asked p s place w f l c (kind_at m) (plain_of a) (scalar m) h.0 x so' pl.owner)))
  claim asked p s names role place (node forms.UnaryNode w f l (more a none)) h n pl g r v so =
      let t = node forms.UnaryNode w f l (more a none) in
      let m = marked names a in
      let k = kind_at (marked names t) in
      let d = apart role t k (marking m unmarked) v in
      let here = plain_here asked p place forms.UnaryNode w f l (forest1 (plain_of a)) refl refl (plain_made t h).1 so
      in
      unary_claim asked p s names place w f l a pl.owner so (small_at a names p s pl)
      (λ ha q. claim asked p s names Free roles.Other a ha n.1.0 pl g q (free_apart a names ha q) here.0)
      (λ ha q e i. placed asked p s names q roles.Other a ha n.1.0 pl g e i here.0) (prefix_in w) refl h
      (part_none role t k m r) d.0
  claim asked p s names role place (node forms.PostfixNode w f l (more a none)) (inl h) n pl g r v so =
      let t = node forms.PostfixNode w f l (more a none) in
      let m = marked names a in
      let k = kind_at (marked names t) in
      let whole = mark t k (marking m unmarked) in
      let b = postfix_unpointed w h.0 in
      let o = unpointed_selection w b in
      let so' : SoundTree asked p place (node forms.PostfixNode w f l (forest1 (plain_of a))) =
      subst (λ z. SoundTree asked p place (if z then plain_of a else
      node forms.PostfixNode w f l (forest1 (plain_of a)))) b so in
      let here = plain_here asked p place forms.PostfixNode w f l (forest1 (plain_of a)) refl refl
      (inl (plain_made a h.2), tt) so' in
      let free : refusals Free m ≡ [] = subst (λ z. refusals z m ≡ []) (ap (λ z. selected_role z k) o)
      (part_none role t k m r) in
      behind_step asked p s place (postfix_in w) (kind_at m) (components_of whole)
      (λ c. component_at c (record { first = f; last = l }) m) (plain_of a)
      (node forms.PostfixNode w f l (forest1 (plain_of a))) (scalar m)
      (postfixed (postfix_in w) (kind_at m) t (scalar m)) (is_pointed w) (selection_in w) b o
      (step_claim asked p s place w f l (more a none) (plain_of a) (scalar m) pl.owner h.0 h.1 (kind_at m)
      (claim asked p s names Free roles.Other a h.2 n.1.0 pl g free (free_apart a names h.2 free) here.0) so'
      (small_at a names p s pl))
  claim asked p s names role place (node forms.PostfixNode w f l (more a none)) (inr h) n pl g r v so =
      let t = node forms.PostfixNode w f l (more a none) in
      let m = marked names a in
      let k = kind_at (marked names t) in
      let whole = mark t k (marking m unmarked) in
      let at : Span = record { first = f; last = l } in
      let d = apart role t k (marking m unmarked) v in
      let b = selected_pointed w h.0 in
      let x = selected_part names role w f l a h.0 h.1 r d.0 in
      let so' : SoundTree asked p place (plain_of a) = subst (λ z. SoundTree asked p place (if z then plain_of a else
      node forms.PostfixNode w f l (forest1 (plain_of a)))) b so in
      let y = placed asked p s names Base place a h.1 n.1.0 pl g x.none' x.place so' in
      let c = component_there names w f l a k (count_in (kind_at (under m))) x y.below y.many in
      behind_selection asked p s place (postfix_in w) (kind_at m) (components_of whole)
      (λ c. component_at c at m) (plain_of a) (node forms.PostfixNode w f l (forest1 (plain_of a))) (scalar m)
      (postfixed (postfix_in w) (kind_at m) t (scalar m)) (is_pointed w) (selection_in w) x.name c.0 b x.selects' c.1
      (selected_other (kind_at m) x.name
      (ap (λ z. is_vector (postfix_kind z (postfix_in w) (kind_at m))) (sym x.selects') ∙ d.0)) (record {
        made = y.made;
        kind = y.kind;
        plain = y.plain;
        as' = tt;
        good = y.component c.0 at place c.2;
      })
  claim asked p s names role place (node forms.PostfixNode w f l (more a (more b none))) h n pl g r v so =
      let t = node forms.PostfixNode w f l (more a (more b none)) in
      let names' = later forms.PostfixNode (more a (more b none)) names true a in
      let m = marked names a in
      let m' = marked names' b in
      let k = kind_at (marked names t) in
      let ms = marking m (marking m' unmarked) in
      let d = apart role t k ms v in
      let o = unpointed_selection w (postfix_unpointed w (indexes_some (postfix_in w) h.0)) in
      let stay = parts_stay role t k ms (λ x y q. ap (λ z. selected_role z k) o) r in
      let pl' = subst (λ z. Plainly z p s) (sym (expression_names names a h.1)) pl in
      let here = plain_here asked p place forms.PostfixNode w f l (forest2 (plain_of a) (plain_of b)) refl refl
      (inl (plain_made a h.1), (inl (plain_made b h.2), tt)) so in
      let x = claim asked p s names Free roles.Other a h.1 n.1.0 pl g stay.0 (free_apart a names h.1 stay.0) here.0 in
      let y = claim asked p s names' Free roles.Other b h.2 n.1.1.0 pl' g stay.1.0 (free_apart b names' h.2 stay.1.0)
      here.1.0 in
      index_other asked p s place w f l (more a (more b none)) (kind_at m) (kind_at m') (plain_of a) (plain_of b)
      (scalar m) (scalar m') (selection_in w) h.0 o d.0 pl.owner x y so
  claim asked p s names role place (node forms.CallNode w f l parts) h n pl g r v so =
      let t = node forms.CallNode w f l parts in
      let q = name_in w in
      let ms = marked_parts forms.CallNode parts (within forms.CallNode w names) true parts in
      let k = kind_at (marked names t) in
      let d = apart role t k ms v in
      let stay = parts_stay role t k ms (λ x y q. used_free k d.0) r in
      let here = call_here asked p place w f l (plains_of parts) (plains_made parts h) so in
      let same = callee_same names p s q pl n.0 here.1 in
      let x = arguments asked p s names q parts h g.1 pl.owner same here.1 here.0 here.2 (λ st o.
      claims asked (in_arguments p q) (in_arguments s q) parts names true parts h n.1 (plainly_inside names p s q pl same o)
      (give_inside asked p q g.0, alone_inside p q g.1) st here.0) (calls_fence (intrinsic_in q)) refl stay in
      subst (λ z. Has asked p s place k (node forms.CallNode w f l (plains_of parts)) z)
      (sym (scalar_call w f l parts k ms))
      (subst (λ z. Has asked p s place z (node forms.CallNode w f l (plains_of parts))
      (node forms.CallNode w f l (scalars ms))) (sym (called_other (intrinsic_in (name_in w)) (vector_among ms) d.0))
      (call_claim asked p s place w f l (plains_of parts) (scalars ms) x.0 so g.0 same pl.owner x.1))
  claim asked p s names role place t h n pl g r v so = absurd h

  claims : (asked : Asked) (p s : Env) (all : Forest) (names : Names) (front : Bool) (ps : Forest) →
      AreExpressionsOf true ps → NoPoints ps → Plainly names p s → Called asked p →
      AllStay (marked_parts forms.CallNode all names front ps) → SoundHere asked p (plains_of ps) →
      AllHave asked p s (plains_of ps) (scalars (marked_parts forms.CallNode all names front ps))
  claims asked p s all names front none h n pl g st so = record {
    kinds' = [];
    plain_made = tt;
    made = tt;
    plain = refl;
    form = refl;
    sound = tt;
  }
  claims asked p s all names front (more a as') h n pl g st so =
      let names' = later forms.CallNode all names front a in
      let pl' = subst (λ z. Plainly z p s) (sym (expression_names names a h.0)) pl in
      one_more asked p s (plain_of a) (scalar (marked names a)) (plains_of as')
      (scalars (marked_parts forms.CallNode all names' false as')) (kind_at (marked names a))
      (claim asked p s names Free roles.Other a h.0 n.0 pl g st.0 (free_apart a names h.0 st.0) so.0)
      (claims asked p s all names' false as' h.1 n.1 pl' g st.1 so.1)

  pub placed : (asked : Asked) (p s : Env) (names : Names) (role : vector_roles.Role) (place : Role) (t : Syntax) →
      IsExpressionOf true t → NoPoint t → Plainly names p s → Called asked p → refusals role (marked names t) ≡ [] →
      is_place (kind_at (marked names t)) ≡ true → SoundTree asked p place (plain_of t) →
      Placed asked p s (marked names t) (plain_of t)
  placed asked p s names role place (node forms.VariableNode w f l none) h n pl g r e so =
      variable_placed asked p s w f l (names (name_in w)) (pl.names' (name_in w) n.0) pl.flags pl.outside e
  placed asked p s names role place (node forms.VariableNode w f l (more a as')) h n pl g r e so = absurd h
  placed asked p s names role place (node forms.ParenNode w f l none) h n pl g r e so = absurd h
  placed asked p s names role place (node forms.ParenNode w f l (more a none)) h n pl g r e so =
      let t = node forms.ParenNode w f l (more a none) in
      let m = marked names a in
      let here = plain_here asked p place forms.ParenNode w f l (forest1 (plain_of a)) refl refl
      (inl (plain_made a h), tt) so in
      paren_placed asked p s w f l (more a none) m (plain_of a) e (placed asked p s names (paren_role role (kind_at m))
      roles.Other a h n.1.0 pl g (part_none role t (kind_at m) m r) e here.0)
  placed asked p s names role place (node forms.ParenNode w f l (more a (more b bs))) h n pl g r e so = absurd h
  placed asked p s names role place (node forms.UnaryNode w f l none) h n pl g r e so = absurd h
  placed asked p s names role place (node forms.UnaryNode w f l (more a none)) h n pl g r e so =
      let t = node forms.UnaryNode w f l (more a none) in
      let m = marked names a in
      let k = kind_at (marked names t) in
      let here = plain_here asked p place forms.UnaryNode w f l (forest1 (plain_of a)) refl refl (plain_made t h).1 so
      in
      unary_placed asked p s names place w f l a e h (part_none role t k m r) so
      (λ ha q. claim asked p s names Free roles.Other a ha n.1.0 pl g q (free_apart a names ha q) here.0)
      (small_at t names p s pl)
  placed asked p s names role place (node forms.UnaryNode w f l (more a (more b bs))) h n pl g r e so = absurd h
  placed asked p s names role place (node forms.PostfixNode w f l none) h n pl g r e so = absurd h
  placed asked p s names role place (node forms.PostfixNode w f l (more a none)) (inl h) n pl g r e so =
      let o = unpointed_selection w (postfix_unpointed w h.0) in
      let i = (index_place (postfix_in w) (kind_at (marked names a))
      (ap (λ z. is_place (postfix_kind z (postfix_in w) (kind_at (marked names a)))) (sym o) ∙ e)).0 in
      absurd (false≢true (sym h.1 ∙ ap indexes i))
  placed asked p s names role place (node forms.PostfixNode w f l (more a none)) (inr h) n pl g r e so =
      let t = node forms.PostfixNode w f l (more a none) in
      let m = marked names a in
      let k = kind_at (marked names t) in
      let x = selection_some w h.0 in
      let b = selected_pointed w h.0 in
      let so' : SoundTree asked p place (plain_of a) = subst (λ z. SoundTree asked p place (if z then plain_of a else
      node forms.PostfixNode w f l (forest1 (plain_of a)))) b so in
      let i = ap (λ z. is_place (postfix_kind z (postfix_in w) (kind_at m))) (sym x.1) ∙ e in
      selection_placed asked p s w f l (more a none) m (plain_of a)
      (node forms.PostfixNode w f l (forest1 (plain_of a))) x.0 x.1 b i
      (placed asked p s names (selected_role (selection_in w) k) place a h.1 n.1.0 pl g (part_none role t k m r)
      (selected_place (kind_at m) x.0 i) so')
  placed asked p s names role place (node forms.PostfixNode w f l (more a (more b none))) h n pl g r e so =
      let t = node forms.PostfixNode w f l (more a (more b none)) in
      let names' = later forms.PostfixNode (more a (more b none)) names true a in
      let m = marked names a in
      let m' = marked names' b in
      let k = kind_at (marked names t) in
      let ms = marking m (marking m' unmarked) in
      let o = unpointed_selection w (postfix_unpointed w (indexes_some (postfix_in w) h.0)) in
      let stay = parts_stay role t k ms (λ x y q. ap (λ z. selected_role z k) o) r in
      let pl' = subst (λ z. Plainly z p s) (sym (expression_names names a h.1)) pl in
      let here = plain_here asked p place forms.PostfixNode w f l (forest2 (plain_of a) (plain_of b)) refl refl
      (inl (plain_made a h.1), (inl (plain_made b h.2), tt)) so in
      index_placed asked p s place w f l (more a (more b none)) m m' (plain_of a) (plain_of b) h.0 o e so
      (claim asked p s names Free roles.Other a h.1 n.1.0 pl g stay.0 (free_apart a names h.1 stay.0) here.0)
      (claim asked p s names' Free roles.Other b h.2 n.1.1.0 pl' g stay.1.0 (free_apart b names' h.2 stay.1.0) here.1.0)
      (small_at a names p s pl) (small_at t names p s pl)
  placed asked p s names role place (node forms.PostfixNode w f l (more a (more b (more c cs)))) h n pl g r e so =
      absurd h
  placed asked p s names role place (node form w f l ps) h n pl g r e so =
      absurd (false≢true (place_form form w names (marked_parts form ps (within form w names) true ps) e))

-- ---- the laws

pub expressions_follow : ExpressionsFollow
expressions_follow asked names plain form role place t h n pl g r v so =
    let x = claim asked plain form names role place t h n pl g r v so in (
      record { sound = x.good.sound; kind = x.good.kind ∙ sym x.plain },
      subst (λ z. KindAs (kind_at (marked names t)) z) (sym x.plain) x.as',
    )

pub components_follow : ComponentsFollow
components_follow asked names plain form role place t h n pl g r e so =
    let x = placed asked plain form names role place t h n pl g r e so in (
      λ c at b. let y = x.component c at place b in record { sound = y.sound; kind = y.kind ∙ sym x.plain },
      subst (λ z. KindAs (kind_at (marked names t)) z) (sym x.plain) x.as',
    )
