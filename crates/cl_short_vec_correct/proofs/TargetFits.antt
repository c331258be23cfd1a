-- The target of a vector statement fits: it is an element, or a variable whose components are visible, or selected
-- components of one.
use Rattle.std.proofs.Common.{◌≡◌, ℕ, List, [], ◌∷◌, ◌++◌, length, Option, None, Some, Bool, true, false}
use Rattle.std.proofs.Common.{if◌then◌else◌, refl, ap, sym, ◌∙◌, subst, ◌⊎◌, inl, inr}
use Rattle.wg_num.specs.declared.types.IntType.{IntType}
use Rattle.wg_num.specs.declared.types.Bin.{Bin}
use Rattle.cl_model.specs.Lists.{Each}
use Rattle.cl_tree.specs.declared.tree.Form.{Form}
use Rattle.cl_tree.specs.declared.tree.Form.TheVariants as forms
use Rattle.cl_tree.specs.Syntax.{Syntax, node, Forest, none, more}
use Rattle.cl_meaning.specs.Spelling.{name_in, postfix_in}
use Rattle.cl_meaning.specs.Environment.{Env}
use Rattle.cl_meaning.specs.Kinds.{is_some}
use Rattle.cl_check_sound.specs.Shape.{IsExpressionOf, IsExpression}
use Rattle.cl_check_sound.proofs.Grown.{each_append}
use Rattle.cl_short_vec.specs.declared.kinds.Kind.{Kind}
use Rattle.cl_short_vec.specs.declared.roles.Role.TheVariants.{Target}
use Rattle.cl_short_vec.specs.Types.{selection_in}
use Rattle.cl_short_vec.specs.Kinds.{Names, within, later, is_vector, selection_of, postfix_kind}
use Rattle.cl_short_vec.specs.Marks.{Mark, mark, Marks, marking, tree_at, kind_at, kind_by, marked, marked_parts}
use Rattle.cl_short_vec.specs.Roles.{is_place}
use Rattle.cl_short_vec.specs.Faults.{selected_in, chosen, picked_by, components_of, refusals}
use Rattle.cl_short_vec.specs.Made.{made_in}
use Rattle.cl_short_vec.specs.Order.{Named, Offset, type_in, count_in, named_by, loads, copies}
use Rattle.cl_short_vec.specs.Order.{is_through, under, is_element_in, target_steps, old_steps, steps_of}
use Rattle.cl_short_vec.specs.Scalar.{scalar}
use Rattle.cl_short_vec.proofs.Small.{SmallMark, AllSmall, components_small}
use Rattle.cl_short_vec_correct.proofs.Scalars.{expression_is, postfix_part}
use Rattle.cl_short_vec_correct.specs.Sources.{Sourced}
use Rattle.cl_short_vec_correct.proofs.Sourced.{SourcedMark, marked_sourced}
use Rattle.cl_short_vec_correct.proofs.StepFits.{IsElementMark, ComponentFits, LeafFits}
use Rattle.cl_short_vec_correct.proofs.Reaches.{named_variable}
use Rattle.cl_short_vec_correct.proofs.Making.{is_variable_made, is_element_made, variable_is, element_is}
use Rattle.cl_short_vec_correct.proofs.Orders.{append_apart, setting_leaves}
use Rattle.cl_short_vec_correct.proofs.LeavesFit.{NamesFit, element_mark, ElementFits, AllVisible, node_visible}
use Rattle.cl_short_vec_correct.proofs.Places.{place_vector, place_made, under_self, components_whole, AllUnder}
use Rattle.cl_short_vec_correct.proofs.Places.{all_under, all_many, selection_is, target_place}

-- the first part of a postfix expression
postfix_front : (w : List ℕ) (f l : ℕ) (a : Syntax) (ps : Forest) →
    IsExpressionOf true (node forms.PostfixNode w f l (more a ps)) → IsExpressionOf true a
postfix_front w f l a none h = postfix_part w (IsExpressionOf true a) h
postfix_front w f l a (more b none) h = h.1
postfix_front w f l a (more b (more c cs)) h = absurd h

module _ (env : Env) where
  -- what is under a place: an element, or a variable whose components are visible
  abbrev pub UnderFits : (element : Bool) → Mark → Type 0
  UnderFits true u = ElementFits env u
  UnderFits false u = AllVisible env (type_in (kind_at u)) (named_by (tree_at u)) (count_in (kind_at u))

  -- A place of that kind, which stands for these components of what is under it.
  pub record IsPlace (u : Mark) (k : Kind) (cs : List ℕ) : Type 0 where
    pub typed : type_in (kind_at u) ≡ type_in k
    pub fits : UnderFits (is_element_in (kind_at u)) u
    pub below : AllUnder (count_in (kind_at u)) cs
    pub many : length cs ≡ count_in k

  abbrev pub PlaceFits : Mark → Type 0
  PlaceFits m = IsPlace (under m) (kind_at m) (components_of m)

  -- a variable, or an element
  whole_fits : (form : Form) (w : List ℕ) (f l : ℕ) (parts : Forest) (names : Names) (ms : Marks) →
      let t = node form w f l parts in let k = kind_by names form w ms in IsExpression (scalar (mark t k ms)) →
      Sourced t → SourcedMark (mark t k ms) → NamesFit env names → is_place k ≡ true → is_through t ≡ false →
      PlaceFits (mark t k ms)
  whole_fits form w f l parts names ms x s q n p h =
      subst (λ u. IsPlace u k (components_of (mark t k ms))) (sym (under_self t k ms h))
      (subst (λ cs. IsPlace (mark t k ms) k cs) (sym (components_whole form w f l parts k ms h)) (record {
        typed = refl;
        fits = by (place_made form w f l parts names ms p h);
        below = all_under k;
        many = all_many k (place_vector k p);
      }))
    where
      t : Syntax
      t = node form w f l parts

      k : Kind
      k = kind_by names form w ms

      by : (is_variable_made (made_in form w) ≡ true) ⊎ (is_element_made (made_in form w) ≡ true) →
          UnderFits (is_element_in k) (mark t k ms)
      by (inl e) =
          let v = variable_is form w names ms e (place_vector k p) in
          let named = named_variable (names (name_in w)) (n.0 (name_in w))
          (ap is_vector (sym v.1) ∙ place_vector k p) in
          subst (λ b. UnderFits b (mark t k ms)) (sym (ap is_element_in (v.1 ∙ named.1)))
          (node_visible env names form w f l parts k n s v.0 v.1 (place_vector k p))
      by (inr e) =
          let g = element_is form w names ms e (place_vector k p) in
          subst (λ b. UnderFits b (mark t k ms)) (sym g) (element_mark (mark t k ms) g, x, q)

  -- selected components of a place
  selected_fits : (a : Mark) (name : List ℕ) → is_place (selection_of (kind_at a) name) ≡ true →
      (is_place (kind_at a) ≡ true → PlaceFits a) →
      IsPlace (under a) (selection_of (kind_at a) name) (chosen (selected_in (kind_at a) name) (components_of a))
  selected_fits a name p h =
      let g = selection_is (count_in (kind_at (under a))) (kind_at a) name (components_of a) p
      (λ q. let i = h q in (i.below, i.many)) in
      let i = h g.place in
      record { typed = i.typed ∙ g.typed; fits = i.fits; below = g.below; many = g.many }

  postfix_fits : (w : List ℕ) (f l : ℕ) (parts : Forest) (names : Names) (a : Mark) (others : Marks) →
      let t = node forms.PostfixNode w f l parts in
      let k = kind_by names forms.PostfixNode w (marking a others) in is_place k ≡ true →
      (is_place (kind_at a) ≡ true → PlaceFits a) →
      (is_through t ≡ false → PlaceFits (mark t k (marking a others))) → PlaceFits (mark t k (marking a others))
  unfolding kind_by under components_of
  postfix_fits w f l parts names a others p h i = by (selection_in w) refl p
    where
      m : Mark
      m = mark (node forms.PostfixNode w f l parts) (postfix_kind (selection_in w) (postfix_in w) (kind_at a))
          (marking a others)

      Goal : Option (List ℕ) → Type 0
      Goal o = IsPlace (if is_some o then under a else m) (postfix_kind o (postfix_in w) (kind_at a))
          (picked_by o (kind_at m) (kind_at a) (components_of a))

      by : (o : Option (List ℕ)) → selection_in w ≡ o →
          is_place (postfix_kind o (postfix_in w) (kind_at a)) ≡ true → Goal (selection_in w)
      by None e q = i (ap is_some e)
      by (Some name) e q = subst Goal (sym e) (selected_fits a name q h)

  mutual
    unfolding marked marked_parts kind_by under components_of

    pub place_fits : (t : Syntax) (names : Names) → IsExpressionOf true t → Sourced t → SmallMark (marked names t) →
        NamesFit env names → is_place (kind_at (marked names t)) ≡ true → PlaceFits (marked names t)
    place_fits (node forms.ParenNode w f l (more a none)) names h s m n p = place_fits a names h s.1.0 m.1.0 n p
    place_fits (node forms.ParenNode w f l parts) names h s m n p = absurd h
    place_fits (node forms.PostfixNode w f l none) names h s m n p = absurd h
    place_fits (node forms.PostfixNode w f l (more a ps)) names h s m n p =
        let t = node forms.PostfixNode w f l (more a ps) in
        let ms = marked_parts forms.PostfixNode (more a ps) names true (more a ps) in
        postfix_fits w f l (more a ps) names (marked names a)
        (marked_parts forms.PostfixNode (more a ps) (later forms.PostfixNode (more a ps) names true a) false ps) p
        (λ q. place_fits a names (postfix_front w f l a ps h) s.1.0 m.1.0 n q)
        (λ e. whole_fits forms.PostfixNode w f l (more a ps) names ms (expression_is t names m h) s
        (marked_sourced t names s) n p e)
    place_fits (node form w f l parts) names h s m n p =
        let t = node form w f l parts in
        whole_fits form w f l parts names (marked_parts form parts (within form w names) true parts) (expression_is t names m h) s
        (marked_sourced t names s) n p refl

  -- ---- steps

  -- what is set: components of an element, or of a variable where they are visible
  abbrev pub SetBy : (element : Bool) → Mark → List ℕ → Type 0
  SetBy true u cs = ElementFits env u × AllSmall cs
  SetBy false u cs = Each (λ c. ComponentFits env (named_by (tree_at u)) c (type_in (kind_at u))) cs

  visible_each : (of : IntType) (x : Named) (n : ℕ) (cs : List ℕ) → AllVisible env of x n → AllUnder n cs →
      Each (λ c. ComponentFits env x c of) cs
  visible_each of x n [] h b = tt
  visible_each of x n (c ∷ cs) h b = (h c b.0, visible_each of x n cs h b.1)

  pub set_fits : (m : Mark) → SmallMark m → PlaceFits m →
      SetBy (is_element_in (kind_at (under m))) (under m) (components_of m)
  set_fits m s p = by (is_element_in (kind_at (under m))) p.fits
    where
      by : (b : Bool) → UnderFits b (under m) → SetBy b (under m) (components_of m)
      by true h = (h, components_small m s)
      by false h = visible_each (type_in (kind_at (under m))) (named_by (tree_at (under m)))
          (count_in (kind_at (under m))) (components_of m) h p.below

  old_loads : (u : Mark) (cs : List ℕ) → IsElementMark u → AllSmall cs → Each (LeafFits env) (loads u cs)
  old_loads u [] e h = tt
  old_loads u (c ∷ cs) e h = ((e, h.0), old_loads u cs e h.1)

  old_copies : (of : IntType) (x : Named) (cs : List ℕ) → Each (λ c. ComponentFits env x c of) cs →
      Each (LeafFits env) (copies of x cs)
  old_copies of x [] h = tt
  old_copies of x (c ∷ cs) h = (h.0, old_copies of x cs h.1)

  steps_fit : (o : Option Bin) (u : Mark) (cs : List ℕ) → SetBy (is_element_in (kind_at u)) u cs →
      Each (LeafFits env) (target_steps u ++ old_steps o u cs)
  steps_fit None u cs h = by (is_element_in (kind_at u)) h
    where
      by : (b : Bool) → SetBy b u cs → Each (LeafFits env) ((if b then Offset u ∷ [] else []) ++ [])
      by true g = (g.0, tt)
      by false g = tt
  steps_fit (Some op) u cs h = by (is_element_in (kind_at u)) h
    where
      by : (b : Bool) → SetBy b u cs → Each (LeafFits env) ((if b then Offset u ∷ [] else []) ++
          (if b then loads u cs else copies (type_in (kind_at u)) (named_by (tree_at u)) cs))
      by true g = (g.0, old_loads u cs g.0.0 g.1)
      by false g = old_copies (type_in (kind_at u)) (named_by (tree_at u)) cs g

  -- the steps of a target, before and with its old components
  pub target_fits : (o : Option Bin) (m : Mark) → SmallMark m → PlaceFits m →
      Each (LeafFits env) (target_steps (under m) ++ old_steps o (under m) (components_of m))
  target_fits o m s p = steps_fit o (under m) (components_of m) (set_fits m s p)

  -- a target that is not refused
  pub target_is : (t : Syntax) (names : Names) → IsExpressionOf true t → Sourced t → SmallMark (marked names t) →
      NamesFit env names → refusals Target (marked names t) ≡ [] → is_vector (kind_at (marked names t)) ≡ true →
      PlaceFits (marked names t)
  target_is t names h s m n r v = place_fits t names h s m n (target_place t names h r v)

  -- all that a statement does before it sets something
  pub setting_fits : (o : Option Bin) (target value : Mark) → SmallMark target → PlaceFits target →
      Each (LeafFits env) (steps_of (type_in (kind_at target)) value) →
      Each (LeafFits env) (setting_leaves o target value)
  setting_fits o target value s p h =
      let t = target_steps (under target) in
      let old = old_steps o (under target) (components_of target) in
      let v = steps_of (type_in (kind_at target)) value in
      subst (λ z. Each (LeafFits env) z) (sym (append_apart t old v))
      (each_append (LeafFits env) (t ++ old) v (target_fits o target s p) h)
