-- The argument of a fence: one of the two memory fences, or both, stays what it is.
use Rattle.std.proofs.Common.{◌≡◌, ℕ, List, [], Option, None, Some, Bool, true, false, ◌&&◌, if◌then◌else◌, refl, ap}
use Rattle.std.proofs.Common.{sym, ◌∙◌, subst, inl, inr}
use Rattle.std.proofs.lemmas.Bool.{false≢true}
use Rattle.std.proofs.lemmas.Option.{none-some}
use Rattle.wg_num.specs.declared.types.IntType.TheVariants as types
use Rattle.cl_tree.specs.declared.tree.Form.TheVariants as forms
use Rattle.cl_tree.specs.Syntax.{Syntax, node, Forest, none, more}
use Rattle.cl_tree.specs.Nodes.{forest1, forest2}
use Rattle.cl_meaning.specs.Spelling.{name_in, flag_in, binary_in}
use Rattle.cl_meaning.specs.declared.names.Flag.{Flag}
use Rattle.cl_meaning.specs.declared.names.Flag.TheVariants as flags
use Rattle.cl_meaning.specs.declared.kind.Kind.{Kind}
use Rattle.cl_meaning.specs.declared.kind.Role.{Role}
use Rattle.cl_meaning.specs.declared.kind.Role.TheVariants as roles
use Rattle.cl_meaning.specs.Environment.{Env, meaning_of}
use Rattle.cl_meaning.specs.Kinds.{is_some, on_one, kind_of_meaning, name_kind, number, flag_of, are_both, are_flags}
use Rattle.cl_meaning.specs.Kinds.{are_flags_alone, kind_step}
use Rattle.cl_meaning.specs.Faults.{Asked}
use Rattle.cl_check_sound.specs.Shape.{IsExpressionOf, AreExpressionsOf}
use Rattle.cl_check_sound.specs.Sound.{SoundTree}
use Rattle.cl_check_sound.proofs.Plain.{SoundHere}
use Rattle.cl_short_vec.specs.declared.kinds.Kind as vectors
use Rattle.cl_short_vec.specs.declared.kinds.Kind.TheVariants.{Other}
use Rattle.cl_short_vec.specs.declared.roles.Role as vector_roles
use Rattle.cl_short_vec.specs.declared.roles.Role.TheVariants.{Free}
use Rattle.cl_short_vec.specs.Plain.{is_pointed}
use Rattle.cl_short_vec.specs.Kinds.{Names, later, is_vector, joined_kind}
use Rattle.cl_short_vec.specs.Marks.{unmarked, marking, kind_at, kind_by, marked, marked_parts}
use Rattle.cl_short_vec.specs.Roles.{role_of}
use Rattle.cl_short_vec.specs.Faults.{refusals}
use Rattle.cl_short_vec.specs.Scalar.{scalar, scalars}
use Rattle.cl_short_vec_faults.specs.PlainForm.{plain_of, plains_of}
use Rattle.cl_short_vec_faults.proofs.Refused.{AllStay, parts_stay, part_none, used_free, free_no_vector}
use Rattle.cl_short_vec_faults.proofs.Refused.{expression_names}
use Rattle.cl_short_vec_faults.proofs.PlainForms.{plain_made, selected_pointed, postfix_unpointed}
use Rattle.cl_short_vec_faults.proofs.Selected.{selected_part}
use Rattle.cl_short_vec_faults.proofs.Claims.{Has, plain_here, operator_claim}
use Rattle.cl_short_vec_faults.proofs.Steps.{paren_claim}
use Rattle.cl_short_vec_faults.proofs.Calling.{AllHave}
use Rattle.cl_short_vec_faults.proofs.Operands.{leaf_claim, one_more}
use Rattle.cl_short_vec_faults.proofs.Flags.{Unflagged, Fenced, unpointed_other, pointed_one, place_unflagged}

-- ---- in one tree

-- the name of a memory fence is a number there
flag_kind : (env : Env) (q : List ℕ) → env.flags ≡ true → is_some (flag_in q) ≡ true →
    name_kind env q ≡ Some (number types.Uint)
flag_kind env q f h = ap (λ z. if z && is_some (flag_in q) then Some (number types.Uint) else
    on_one (meaning_of env q) kind_of_meaning) f ∙ ap (λ z. if z then Some (number types.Uint) else
    on_one (meaning_of env q) kind_of_meaning) h

both_are : (a b : Option Flag) → are_both a b ≡ true → ((g : Flag) × (a ≡ Some g)) × ((k : Flag) × (b ≡ Some k))
both_are (Some flags.Local) (Some flags.Global) e = ((flags.Local, refl), (flags.Global, refl))
both_are (Some flags.Global) (Some flags.Local) e = ((flags.Global, refl), (flags.Local, refl))
both_are (Some flags.Local) (Some flags.Local) e = absurd (false≢true e)
both_are (Some flags.Global) (Some flags.Global) e = absurd (false≢true e)
both_are None b e = absurd (false≢true e)
both_are (Some flags.Local) None e = absurd (false≢true e)
both_are (Some flags.Global) None e = absurd (false≢true e)

-- behind one operand there is none
postfix_unflagged : (names : Names) (role : vector_roles.Role) (w : List ℕ) (f l : ℕ) (a : Syntax) →
    IsExpressionOf true (node forms.PostfixNode w f l (more a none)) → Fenced names →
    refusals role (marked names (node forms.PostfixNode w f l (more a none))) ≡ [] →
    is_vector (kind_at (marked names (node forms.PostfixNode w f l (more a none)))) ≡ false →
    Unflagged (plain_of (node forms.PostfixNode w f l (more a none)))
unfolding plain_of plains_of
postfix_unflagged names role w f l a (inl h) n r e =
    unpointed_other (is_pointed w) (plain_of a) (node forms.PostfixNode w f l (forest1 (plain_of a)))
    (postfix_unpointed w h.0) (refl, refl)
postfix_unflagged names role w f l a (inr h) n r e =
    pointed_one (is_pointed w) (plain_of a) (node forms.PostfixNode w f l (forest1 (plain_of a)))
    (selected_pointed w h.0) (place_unflagged a names h.1 n (selected_part names role w f l a h.0 h.1 r e).place)

module _ (asked : Asked) (p s : Env) (fp : p.flags ≡ true) (fs : s.flags ≡ true) (ow : s.owner ≡ p.owner) where
  flag_claim : (place : Role) (w : List ℕ) (f l : ℕ) → is_some (flag_in (name_in w)) ≡ true →
      SoundTree asked p place (node forms.VariableNode w f l none) →
      Has asked p s place (Other true) (node forms.VariableNode w f l none) (node forms.VariableNode w f l none)
  unfolding kind_step
  flag_claim place w f l h so =
      let q = name_in w in
      leaf_claim asked p s place forms.VariableNode w f l (Other true) (number types.Uint) refl refl ow
      (flag_kind s q fs h ∙ sym (flag_kind p q fp h)) tt tt so (flag_kind p q fp h) tt

  -- what stands for the tree is its plain form, of that kind
  abbrev Kept : vectors.Kind → Role → Names → Syntax → Type 0
  Kept j place names t = (scalar (marked names t) ≡ plain_of t) × Has asked p s place j (plain_of t) (plain_of t)

  one_flag : (t : Syntax) (names : Names) (role : vector_roles.Role) (place : Role) → IsExpressionOf true t →
      Fenced names → refusals role (marked names t) ≡ [] → is_vector (kind_at (marked names t)) ≡ false → (g : Flag) →
      flag_of (plain_of t) ≡ Some g → SoundTree asked p place (plain_of t) → Kept (Other true) place names t
  unfolding marked marked_parts kind_by plain_of plains_of scalar role_of
  one_flag (node forms.VariableNode w f l none) names role place h n r v g e so =
      (refl, flag_claim place w f l (ap is_some e) so)
  one_flag (node forms.VariableNode w f l (more a as')) names role place h n r v g e so = absurd h
  one_flag (node forms.ParenNode w f l none) names role place h n r v g e so = absurd h
  one_flag (node forms.ParenNode w f l (more a none)) names role place h n r v g e so =
      let t = node forms.ParenNode w f l (more a none) in
      let k = kind_at (marked names a) in
      let here = plain_here asked p place forms.ParenNode w f l (forest1 (plain_of a)) refl refl
      (inl (plain_made a h), tt) so in
      let x = one_flag a names _ roles.Other h n (part_none role t k (marked names a) r) v g e here.0 in (
        ap (λ z. node forms.ParenNode w f l (forest1 z)) x.0,
        paren_claim asked p s place w f l (Other true) (plain_of a) (plain_of a) ow x.1 so,
      )
  one_flag (node forms.ParenNode w f l (more a (more b bs))) names role place h n r v g e so = absurd h
  one_flag (node forms.PostfixNode w f l none) names role place h n r v g e so = absurd h
  one_flag (node forms.PostfixNode w f l (more a none)) names role place h n r v g e so =
      absurd (none-some g (sym (postfix_unflagged names role w f l a h n r v).1 ∙ e))
  one_flag (node forms.PostfixNode w f l (more a (more b bs))) names role place h n r v g e so =
      absurd (none-some g e)
  one_flag (node form w f l ps) names role place h n r v g e so = absurd (none-some g e)

  flags_claim : (t : Syntax) (names : Names) (role : vector_roles.Role) (place : Role) → IsExpressionOf true t →
      Fenced names → refusals role (marked names t) ≡ [] → is_vector (kind_at (marked names t)) ≡ false →
      are_flags (plain_of t) ≡ true → SoundTree asked p place (plain_of t) →
      (j : vectors.Kind) × Kept j place names t
  unfolding marked marked_parts kind_by plain_of plains_of scalar role_of
  flags_claim (node forms.VariableNode w f l none) names role place h n r v e so =
      (Other true, (refl, flag_claim place w f l e so))
  flags_claim (node forms.VariableNode w f l (more a as')) names role place h n r v e so = absurd h
  flags_claim (node forms.ParenNode w f l none) names role place h n r v e so = absurd h
  flags_claim (node forms.ParenNode w f l (more a none)) names role place h n r v e so =
      let t = node forms.ParenNode w f l (more a none) in
      let k = kind_at (marked names a) in
      let here = plain_here asked p place forms.ParenNode w f l (forest1 (plain_of a)) refl refl
      (inl (plain_made a h), tt) so in
      let x = flags_claim a names _ roles.Other h n (part_none role t k (marked names a) r) v e here.0 in (
        x.0,
        (
          ap (λ z. node forms.ParenNode w f l (forest1 z)) x.1.0,
          paren_claim asked p s place w f l x.0 (plain_of a) (plain_of a) ow x.1.1 so,
        ),
      )
  flags_claim (node forms.ParenNode w f l (more a (more b bs))) names role place h n r v e so = absurd h
  flags_claim (node forms.BorNode w f l none) names role place h n r v e so = absurd h
  flags_claim (node forms.BorNode w f l (more a none)) names role place h n r v e so = absurd h
  flags_claim (node forms.BorNode w f l (more a (more b none))) names role place h n r v e so =
      let t = node forms.BorNode w f l (more a (more b none)) in
      let names' = later forms.BorNode (more a (more b none)) names true a in
      let m = marked names t in
      let stay = parts_stay role t (kind_at m) (marking (marked names a) (marking (marked names' b) unmarked))
      (λ x y q. used_free (kind_at m) v) r in
      let n' = subst Fenced (sym (expression_names names a h.1)) n in
      let here = plain_here asked p place forms.BorNode w f l (forest2 (plain_of a) (plain_of b)) refl refl
      (inl (plain_made a h.1), (inl (plain_made b h.2), tt)) so in
      let d = both_are (flag_of (plain_of a)) (flag_of (plain_of b)) e in
      let x = one_flag a names Free roles.Other h.1 n stay.0 (free_no_vector a names h.1 stay.0) d.0.0 d.0.1 here.0 in
      let y = one_flag b names' Free roles.Other h.2 n' stay.1.0 (free_no_vector b names' h.2 stay.1.0) d.1.0 d.1.1
      here.1.0 in (
        joined_kind (binary_in w) (Other true) (Other true),
        (
          ap (λ z. node forms.BorNode w f l (forest2 z (scalar (marked names' b)))) x.0 ∙
              ap (λ z. node forms.BorNode w f l (forest2 (plain_of a) z)) y.0,
          operator_claim asked p s place forms.BorNode refl w f l (Other true) (Other true) (plain_of a) (plain_of b)
              (plain_of a) (plain_of b) x.1 y.1 so h.0 ow refl refl,
        ),
      )
  flags_claim (node forms.BorNode w f l (more a (more b (more c cs)))) names role place h n r v e so = absurd h
  flags_claim (node forms.PostfixNode w f l none) names role place h n r v e so = absurd h
  flags_claim (node forms.PostfixNode w f l (more a none)) names role place h n r v e so =
      absurd (false≢true (sym (postfix_unflagged names role w f l a h n r v).0 ∙ e))
  flags_claim (node forms.PostfixNode w f l (more a (more b bs))) names role place h n r v e so =
      absurd (false≢true e)
  flags_claim (node form w f l ps) names role place h n r v e so = absurd (false≢true e)

  -- the arguments of a call, where they are such a tree
  pub fence_arguments : (parts all : Forest) (names : Names) → AreExpressionsOf true parts → Fenced names →
      AllStay (marked_parts forms.CallNode all names true parts) → are_flags_alone (plains_of parts) ≡ true →
      SoundHere asked p (plains_of parts) →
      AllHave asked p s (plains_of parts) (scalars (marked_parts forms.CallNode all names true parts)) ×
      (are_flags_alone (scalars (marked_parts forms.CallNode all names true parts)) ≡ true)
  unfolding marked_parts plains_of scalars
  fence_arguments none all names h n st e so = absurd (false≢true e)
  fence_arguments (more a none) all names h n st e so =
      let x = flags_claim a names Free roles.Other h.0 n st.0 (free_no_vector a names h.0 st.0) e so.0 in (
        one_more asked p s (plain_of a) (scalar (marked names a)) none none x.0
            (subst (λ z. Has asked p s roles.Other x.0 (plain_of a) z) (sym x.1.0) x.1.1) (record {
              kinds' = [];
              plain_made = tt;
              made = tt;
              plain = refl;
              form = refl;
              sound = tt;
            }),
        ap are_flags x.1.0 ∙ e,
      )
  fence_arguments (more a (more b bs)) all names h n st e so = absurd (false≢true e)
