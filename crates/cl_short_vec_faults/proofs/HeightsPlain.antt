-- A marked tree and the plain form of a tree are as high as the tree, and with lower calls a tree is lower.
use Rattle.std.proofs.Common.{◌≡◌, ℕ, ◌≤◌, max, List, Bool, true, false, if◌then◌else◌, arith, refl, ap, sym, ◌∙◌}
use Rattle.std.proofs.Common.{subst}
use Rattle.cl_tree.specs.declared.tree.Form.{Form}
use Rattle.cl_tree.specs.declared.tree.Form.TheVariants as forms
use Rattle.cl_tree.specs.Syntax.{Syntax, node, Forest, none, more}
use Rattle.cl_tree.specs.Nodes.{forest1}
use Rattle.cl_limits.specs.Heights.{is_branch, own_height, height_of, height_of_all}
use Rattle.cl_meaning.specs.Spelling.{name_in}
use Rattle.cl_short_vec.specs.Plain.{is_pointed}
use Rattle.cl_short_vec.specs.Kinds.{Names, within, later}
use Rattle.cl_short_vec.specs.Marks.{marked, marked_parts}
use Rattle.cl_short_vec.specs.Unit.{scalarised}
use Rattle.cl_short_vec_faults.specs.PlainForm.{plain_by, plain_of, plains_of}
use Rattle.cl_short_vec_faults.proofs.HeightsNodes.{same, each, inside_grows, node_height, mark_height}
use Rattle.cl_short_vec_faults.proofs.HeightsNodes.{marks_height}
use Rattle.cl_short_vec_faults.proofs.HeightsForms.{scalarised_low}

mutual
  unfolding marked marked_parts

  pub marked_height : (g : List ℕ → ℕ) (names : Names) (t : Syntax) →
      mark_height g (marked names t) ≡ height_of g t
  marked_height g names (node form w f l parts) =
      ap (node_height g form w) (marked_parts_height g form parts (within form w names) true parts)

  marked_parts_height : (g : List ℕ → ℕ) (form : Form) (all : Forest) (names : Names) (first : Bool) (ps : Forest) →
      marks_height g (marked_parts form all names first ps) ≡ height_of_all g ps
  marked_parts_height g form all names first none = refl
  marked_parts_height g form all names first (more p ps) =
      let n = later form all names first p in
      ap (λ z. max z (marks_height g (marked_parts form all n false ps))) (marked_height g names p) ∙
      ap (max (height_of g p)) (marked_parts_height g form all n false ps)

alone : (n : ℕ) → n ≡ max 0 (max n 0)
alone n = omega arith

plain_by_height : (g : List ℕ → ℕ) (form : Form) (w : List ℕ) (f l : ℕ) (ps parts : Forest) →
    height_of g (plain_by form (node form w f l ps) parts) ≡ node_height g form w (height_of_all g parts)
plain_by_height g forms.TypeNode w f l ps parts = refl
plain_by_height g forms.PostfixNode w f l ps (more a none) = by (is_pointed w)
  where
    by : (b : Bool) → height_of g (if b then a else node forms.PostfixNode w f l (forest1 a)) ≡
        max 0 (max (height_of g a) 0)
    by true = alone (height_of g a)
    by false = refl
plain_by_height g forms.PostfixNode w f l ps none = refl
plain_by_height g forms.PostfixNode w f l ps (more a (more b bs)) = refl
plain_by_height g _ w f l ps parts = refl

mutual
  unfolding plain_of plains_of

  pub plain_height : (g : List ℕ → ℕ) (t : Syntax) → height_of g (plain_of t) ≡ height_of g t
  plain_height g (node form w f l parts) =
      plain_by_height g form w f l parts (plains_of parts) ∙ ap (node_height g form w) (plains_height g parts)

  plains_height : (g : List ℕ → ℕ) (ps : Forest) → height_of_all g (plains_of ps) ≡ height_of_all g ps
  plains_height g none = refl
  plains_height g (more p ps) = ap (λ z. max z (height_of_all g (plains_of ps))) (plain_height g p) ∙
      ap (max (height_of g p)) (plains_height g ps)

-- what stands for a tree is no higher than its plain form
pub form_height : (g : List ℕ → ℕ) (names : Names) (t : Syntax) →
    height_of g (scalarised (marked names t)) ≤ height_of g (plain_of t)
form_height g names t = subst (λ z. height_of g (scalarised (marked names t)) ≤ z)
    (marked_height g names t ∙ sym (plain_height g t)) (scalarised_low g (marked names t))

-- ---- lower calls

module _ (g k : List ℕ → ℕ) (h : (name : List ℕ) → g name ≤ k name) where
  own_lower : (form : Form) (w : List ℕ) → own_height g form w ≤ own_height k form w
  own_lower forms.CallNode w = h (name_in w)
  own_lower form w = same 0

  mutual
    pub height_lower : (t : Syntax) → height_of g t ≤ height_of k t
    height_lower (node form w f l parts) =
        inside_grows (is_branch form) (max (own_height g form w) (height_of_all g parts))
        (max (own_height k form w) (height_of_all k parts))
        (each (own_height g form w) (height_of_all g parts) (own_height k form w) (height_of_all k parts)
        (own_lower form w) (heights_lower parts))

    heights_lower : (ps : Forest) → height_of_all g ps ≤ height_of_all k ps
    heights_lower none = same 0
    heights_lower (more p ps) = each (height_of g p) (height_of_all g ps) (height_of k p) (height_of_all k ps)
        (height_lower p) (heights_lower ps)
