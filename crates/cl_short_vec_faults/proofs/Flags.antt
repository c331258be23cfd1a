-- The argument of a fence stays one: in it the names of memory fences stand for no vectors.
use Rattle.std.proofs.Common.{◌≡◌, ℕ, List, Option, None, Some, Bool, true, false, nat_eq, if◌then◌else◌, refl, ap}
use Rattle.std.proofs.Common.{sym, ◌∙◌, subst, inl, inr}
use Rattle.std.proofs.lemmas.Bool.{false≢true}
use Rattle.std.specs.Prelude.{codes}
use lib.Pointwise.{pointwise, bytes_decides}
use Rattle.cl_tree.specs.declared.tree.Form.TheVariants as forms
use Rattle.cl_tree.specs.Syntax.{Syntax, node, none, more}
use Rattle.cl_tree.specs.Nodes.{forest1}
use Rattle.cl_meaning.specs.Spelling.{name_in, postfix_in}
use Rattle.cl_meaning.specs.Names.{flag_in}
use Rattle.cl_meaning.specs.declared.names.Flag.{Flag}
use Rattle.cl_meaning.specs.declared.names.Flag.TheVariants as flags
use Rattle.cl_meaning.specs.Kinds.{is_some, flag_of, are_flags}
use Rattle.cl_check_sound.specs.Shape.{IsExpressionOf}
use Rattle.cl_short_vec.specs.declared.kinds.Kind.{Kind}
use Rattle.cl_short_vec.specs.declared.kinds.Kind.TheVariants.{Vectors, Pointer, Other}
use Rattle.cl_short_vec.specs.Plain.{is_pointed}
use Rattle.cl_short_vec.specs.Kinds.{Names, with_fences, within, is_other, postfix_kind}
use Rattle.cl_short_vec.specs.Marks.{kind_at, kind_by, marked, marked_parts}
use Rattle.cl_short_vec.specs.Roles.{is_place}
use Rattle.cl_short_vec_faults.specs.PlainForm.{plain_of, plains_of}
use Rattle.cl_short_vec_faults.proofs.PlainForms.{selected_pointed, postfix_unpointed, selection_some}
use Rattle.cl_short_vec_faults.proofs.Places.{place_form, selected_place}

-- what is no memory fence
abbrev pub Unflagged : Syntax → Type 0
Unflagged t = (are_flags t ≡ false) × (flag_of t ≡ None)

-- the names of memory fences stand for no vectors
abbrev pub Fenced : Names → Type 0
Fenced names = (q : List ℕ) → is_some (flag_in q) ≡ true → is_other (names q) ≡ true

-- as they do in the argument of a fence
pub fences_fenced : (names : Names) → Fenced (with_fences names)
unfolding flag_in
fences_fenced names q = local (pointwise nat_eq q (codes "CLK_LOCAL_MEM_FENCE")) refl
  where
    global : (y : Bool) → pointwise nat_eq q (codes "CLK_GLOBAL_MEM_FENCE") ≡ y →
        is_some (if y then Some flags.Global else None) ≡ true → is_other (with_fences names q) ≡ true
    global true i e = subst (λ z. is_other (with_fences names z) ≡ true)
        (sym ((bytes_decides q (codes "CLK_GLOBAL_MEM_FENCE")).0 i)) refl
    global false i e = absurd (false≢true e)

    local : (x : Bool) → pointwise nat_eq q (codes "CLK_LOCAL_MEM_FENCE") ≡ x → is_some (if x then Some flags.Local else
        (if pointwise nat_eq q (codes "CLK_GLOBAL_MEM_FENCE") then Some flags.Global else None)) ≡ true →
        is_other (with_fences names q) ≡ true
    local true i e = subst (λ z. is_other (with_fences names z) ≡ true)
        (sym ((bytes_decides q (codes "CLK_LOCAL_MEM_FENCE")).0 i)) refl
    local false i e = global (pointwise nat_eq q (codes "CLK_GLOBAL_MEM_FENCE")) refl e

other_no_place : (k : Kind) → is_other k ≡ true → is_place k ≡ true → ⊥
other_no_place (Other b) e h = false≢true h
other_no_place (Pointer s c v) e h = false≢true h
other_no_place (Vectors v r) e h = false≢true e

place_no_flag : (names : Names) (q : List ℕ) → Fenced names → is_place (names q) ≡ true → flag_in q ≡ None
place_no_flag names q n h = by (flag_in q) (n q)
  where
    by : (o : Option Flag) → (is_some o ≡ true → is_other (names q) ≡ true) → o ≡ None
    by None e = refl
    by (Some g) e = absurd (other_no_place (names q) (e refl) h)

pub unpointed_other : (b : Bool) (x y : Syntax) → b ≡ false → Unflagged y → Unflagged (if b then x else y)
unpointed_other true x y e h = absurd (false≢true (sym e))
unpointed_other false x y e h = h

pub pointed_one : (b : Bool) (x y : Syntax) → b ≡ true → Unflagged x → Unflagged (if b then x else y)
pointed_one true x y e h = h
pointed_one false x y e h = absurd (false≢true e)

-- no place of vectors is a memory fence in the plain form
pub place_unflagged : (t : Syntax) (names : Names) → IsExpressionOf true t → Fenced names →
    is_place (kind_at (marked names t)) ≡ true → Unflagged (plain_of t)
unfolding marked marked_parts kind_by plain_of plains_of
place_unflagged (node forms.VariableNode w f l none) names h n e =
    let z = place_no_flag names (name_in w) n e in (ap is_some z, z)
place_unflagged (node forms.VariableNode w f l (more a as')) names h n e = absurd h
place_unflagged (node forms.ParenNode w f l none) names h n e = absurd h
place_unflagged (node forms.ParenNode w f l (more a none)) names h n e = place_unflagged a names h n e
place_unflagged (node forms.ParenNode w f l (more a (more b bs))) names h n e = absurd h
place_unflagged (node forms.UnaryNode w f l none) names h n e = absurd h
place_unflagged (node forms.UnaryNode w f l (more a none)) names h n e = (refl, refl)
place_unflagged (node forms.UnaryNode w f l (more a (more b bs))) names h n e = absurd h
place_unflagged (node forms.PostfixNode w f l none) names h n e = absurd h
place_unflagged (node forms.PostfixNode w f l (more a none)) names (inl h) n e =
    unpointed_other (is_pointed w) (plain_of a) (node forms.PostfixNode w f l (forest1 (plain_of a)))
    (postfix_unpointed w h.0) (refl, refl)
place_unflagged (node forms.PostfixNode w f l (more a none)) names (inr h) n e =
    let x = selection_some w h.0 in
    pointed_one (is_pointed w) (plain_of a) (node forms.PostfixNode w f l (forest1 (plain_of a)))
    (selected_pointed w h.0) (place_unflagged a names h.1 n (selected_place (kind_at (marked names a)) x.0
    (ap (λ o. is_place (postfix_kind o (postfix_in w) (kind_at (marked names a)))) (sym x.1) ∙ e)))
place_unflagged (node forms.PostfixNode w f l (more a (more b bs))) names h n e = (refl, refl)
place_unflagged (node form w f l ps) names h n e =
    absurd (false≢true (place_form form w names (marked_parts form ps (within form w names) true ps) e))
