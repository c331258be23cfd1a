-- An array of vectors: in the plain form one of as many numbers, and here one of all their components. It is at fault
-- here, its length aside, only where it is there.
use Rattle.std.proofs.Common.{◌≡◌, ℕ, ◌≤◌, List, [], length, Option, None, Some, true, false, nat_eq}
use Rattle.std.proofs.Common.{if◌then◌else◌, refl, ap, sym, ◌∙◌, subst, inl, inr, ◌⊎◌}
use Rattle.std.proofs.lemmas.Bool.{false≢true}
use Rattle.std.proofs.lemmas.Option.{none-some}
use Rattle.std.specs.Prelude.{nat_le}
use Rattle.cl_tree.specs.declared.tree.Form.{Form}
use Rattle.cl_tree.specs.declared.tree.Form.TheVariants as forms
use Rattle.cl_tree.specs.Syntax.{Syntax, node, Forest, none, more}
use Rattle.cl_meaning.specs.Spelling.{name_in, dimensions_in, is_set, is_const}
use Rattle.cl_meaning.specs.declared.types.Declared.{Declared}
use Rattle.cl_meaning.specs.declared.constant.Constant.{Constant}
use Rattle.cl_meaning.specs.declared.fault.Fault.TheVariants as faults
use Rattle.cl_meaning.specs.Constants.{constant_of}
use Rattle.cl_meaning.specs.declared.kind.Each.TheVariants as each
use Rattle.cl_meaning.specs.declared.kind.Reach.TheVariants as reach
use Rattle.cl_meaning.specs.declared.kind.Kind.{Kind}
use Rattle.cl_meaning.specs.declared.kind.Kind.TheVariants as kinds
use Rattle.cl_meaning.specs.declared.kind.Meaning.TheVariants as meanings
use Rattle.cl_meaning.specs.declared.kind.Role.TheVariants as roles
use Rattle.cl_meaning.specs.Environment.{Env, meaning_of}
use Rattle.cl_meaning.specs.Kinds.{is_some, on_one, kind_of_meaning}
use Rattle.cl_meaning.specs.Declarations.{is_list, word_of, form_of, star_in, listed}
use Rattle.cl_meaning.specs.Declarations.{Declarator, declarator_in, dims_of, or_none, each_of, initial_values}
use Rattle.cl_meaning.specs.Declarations.{last_kind, kept_in, next_root, with_declarator, lengths_in}
use Rattle.cl_meaning.specs.Declarations.{with_length, length_of_constant, allowed}
use Rattle.cl_meaning.specs.Visible.{inside, later, behind, behind_parts, kinds_of}
use Rattle.cl_meaning.specs.Faults.{Asked, too_many_initialisers, all_constant}
use Rattle.cl_check_sound.specs.Shape.{is_expression, IsExpressionOf, IsListOf, IsDeclaratorOf}
use Rattle.cl_check_sound.specs.Sound.{SoundTree, SoundParts}
use Rattle.cl_check_sound.proofs.Neutral.{neutral}
use Rattle.cl_check_sound.proofs.Declaring.{count_fits}
use Rattle.cl_short_vec.specs.declared.types.Vector.{Vector}
use Rattle.cl_short_vec.specs.Kinds.{Names, with_name, pointer_to, space_or_private}
use Rattle.cl_short_vec.specs.Marks.{marked, marked_parts}
use Rattle.cl_short_vec.specs.declared.roles.Role.TheVariants.{Free}
use Rattle.cl_short_vec.specs.Faults.{refusals}
use Rattle.cl_short_vec.specs.Scalar.{scalar}
use Rattle.cl_short_vec.specs.Unit.{is_length_form, length_or_part, lengths_at, length_at}
use Rattle.cl_short_vec_faults.specs.PlainForm.{plain_of, plains_of}
use Rattle.cl_short_vec_faults.specs.Plainly.{NoPoint, NoPoints, PointsAs}
use Rattle.cl_short_vec_faults.specs.Law.{ExpressionsFollow}
use Rattle.cl_short_vec_faults.specs.SoundBut.{SoundBut}
use Rattle.cl_short_vec_faults.specs.Beside.{IsName, Beside}
use Rattle.cl_short_vec_faults.proofs.Building.{NoFault, Good}
use Rattle.cl_short_vec_faults.proofs.Refused.{AllStay, expression_form}
use Rattle.cl_short_vec_faults.proofs.PlainForms.{plain_made}
use Rattle.cl_short_vec_faults.proofs.ScalarMade.{scalar_made}
use Rattle.cl_short_vec_faults.proofs.HolderParts.{PartSame, part_either, made_no_star}
use Rattle.cl_short_vec_faults.proofs.HolderParts.{list_constant}
use Rattle.cl_short_vec_faults.proofs.ArrayLengths.{length_good, constant_number}
use Rattle.cl_short_vec_faults.proofs.SameDeclarators.{SameDeclarator, declarator_looked}
use Rattle.cl_short_vec_faults.proofs.DeclaredNames.{meant_as, declared_meant}
use Rattle.cl_short_vec_faults.proofs.PlainDeclarators.{Walks, sound_declarator, goes_declarator, walks_declarator}
use Rattle.cl_short_vec_faults.proofs.PlainDeclarators.{meant_both, plain_meant}
use Rattle.cl_short_vec_faults.proofs.PlainDeclarations.{tree_is}
use Rattle.cl_short_vec_faults.proofs.VectorStays.{components_of_type, IsArrayAt, and_false}
use Rattle.cl_short_vec_faults.proofs.UnsetDeclarators.{unset_fit, starless_leaves, unset_init, array_lengths}
use Rattle.cl_short_vec_faults.proofs.UnsetDeclarators.{one_element, several, unset_inside, unset_kept}

-- ---- the only length

list_no_constant : (t : Syntax) → IsListOf true t → constant_of (plain_of t) ≡ None
unfolding plain_of
list_no_constant (node forms.ListNode w f l ps) h = list_constant w f l (plains_of ps)
list_no_constant t h = absurd h

expression_length : (form : Form) → is_expression form ≡ true → is_length_form form ≡ true
expression_length forms.StarNode e = absurd (false≢true e)
expression_length forms.ListNode e = absurd (false≢true e)
expression_length _ e = refl

length_is : (v : Vector) (names : Names) (e : Syntax) → IsExpressionOf true e →
    length_or_part v (marked names e) ≡ length_at v (scalar (marked names e))
length_is v names e h =
    ap (λ z. if is_length_form (form_of z) then length_at v (scalar (marked names e)) else scalar (marked names e))
    (tree_is names e) ∙
    ap (λ b. if b then length_at v (scalar (marked names e)) else scalar (marked names e))
    (expression_length (form_of e) (expression_form e h))

constant_there : (o : Option Constant) (dims : List ℕ) →
    allowed (with_length (length_of_constant o) (Some [])) ≡ Some dims → (c : Constant) × (o ≡ Some c)
constant_there None dims e = absurd (none-some dims e)
constant_there (Some c) dims e = (c, refl)

module _ (follow : ExpressionsFollow) (asked : Asked) (names : Names) (n : ℕ) (p s : Env)
    (be : Beside asked names n p s) (v : Vector) (few : v.count ≤ 16) (type : Syntax)
    (typed : p.declared ≡ Some (components_of_type v type)) (w : List ℕ) (f l : ℕ) (i : IsName (name_in w))
  where
    abbrev d : Declared
    d = components_of_type v type

    abbrev q : List ℕ
    q = name_in w

    -- of parts of which nothing is said but that they are at no fault and leave what is visible
    shown : (P S : Forest) → dimensions_in w ≡ 1 → is_set w ≡ false → star_in P ≡ None → star_in S ≡ None →
        behind_parts p forms.DeclaratorNode true P ≡ p → behind_parts s forms.DeclaratorNode true S ≡ s →
        SoundParts asked s forms.DeclaratorNode None S →
        SoundTree asked p roles.Other (node forms.DeclaratorNode w f l P) →
        SoundBut asked s roles.Other (node forms.DeclaratorNode w f l S) ×
        Beside asked (with_name names q (pointer_to v type)) n (behind p (node forms.DeclaratorNode w f l P))
        (behind s (node forms.DeclaratorNode w f l S)) × Walks p (behind p (node forms.DeclaratorNode w f l P))
    shown P S one un sp ss ep es so' so =
        let x = declarator_in w f P in
        let y = declarator_in w f S in
        let kp = kinds_of p forms.DeclaratorNode true P in
        let ks = kinds_of s forms.DeclaratorNode true S in
        let k = last_kind kp in
        let ix = unset_init w f P un in
        let iy = unset_init w f S un in
        let ex = one_element w f P one un sp in
        let same : SameDeclarator x y = record {
          star = ss ∙ sym sp;
          dimensions = refl;
          each' = one_element w f S one un ss ∙ sym ex;
          some = ap is_some (iy ∙ sym ix);
          list = ap is_list (iy ∙ sym ix);
          constants = ap (λ z. all_constant (initial_values z)) (iy ∙ sym ix);
        } in
        let fit = λ (o : Option Declared). unset_fit x sp ix o (last_kind ks) k in
        let leave = starless_leaves s d y ss (last_kind ks) k in
        let nf = subst (NoFault asked) (declarator_looked p w f l P ep) so.1.0 in
        let outside = unset_inside asked p w f P kp d typed nf sp ix in
        let kept : kept_in p d ≡ space_or_private d.space = unset_kept asked p w f P kp d typed nf sp outside in
        let p' = with_declarator p (Some d) x k in
        let s' = with_declarator s (Some d) y k in
        let means : meaning_of p' q ≡ Some (meanings.Array (space_or_private d.space) d.of d.constant
        (next_root p (kept_in p d)) each.Element) =
        plain_meant asked names n p s be d x y k same q i refl refl ∙ array_means x k sp one ex kept in
        let points : PointsAs (space_or_private d.space) d.constant v (on_one (meaning_of p' q) kind_of_meaning) =
        (next_root p (kept_in p d), reach.Value, ap (λ z. on_one z kind_of_meaning) means) in (
          sound_declarator asked names n p s be d typed w f l i P S same ep es fit leave so so',
          goes_declarator asked names n p s be d typed w f l i P S same ep es fit leave so (pointer_to v type) few
              (meant_both asked names n p s be d x y k same q i refl refl, points),
          walks_declarator asked names n p s be d typed w f l i P S same ep es fit leave so,
        )
      where
        array_means : (x : Declarator) (k : Option Kind) → x.star ≡ None → x.dimensions ≡ 1 →
            each_of (or_none (dims_of x)) ≡ each.Element → kept_in p d ≡ space_or_private d.space →
            Some (meant_as p d x k) ≡ Some (meanings.Array (space_or_private d.space) d.of d.constant
            (next_root p (kept_in p d)) each.Element)
        array_means x k es en ee ek =
            ap (λ z. Some (declared_meant p d z (nat_eq x.dimensions 0) (each_of (or_none (dims_of x))) k)) es ∙
            (ap (λ z. Some (declared_meant p d None (nat_eq z 0) (each_of (or_none (dims_of x))) k)) en ∙
            (ap (λ z. Some (declared_meant p d None false z k)) ee ∙
            ap (λ z. Some (meanings.Array z d.of d.constant (next_root p (kept_in p d)) each.Element)) ek))

    array_of_one : (e : Syntax) → IsExpressionOf true e ⊎ IsListOf true e → NoPoint e →
        refusals Free (marked names e) ≡ [] → IsArrayAt w (more e none) →
        SoundTree asked p roles.Other (node forms.DeclaratorNode w f l (more (plain_of e) none)) →
        SoundBut asked s roles.Other (node forms.DeclaratorNode w f l (more (length_or_part v (marked names e)) none)) ×
        Beside asked (with_name names q (pointer_to v type)) n
        (behind p (node forms.DeclaratorNode w f l (more (plain_of e) none)))
        (behind s (node forms.DeclaratorNode w f l (more (length_or_part v (marked names e)) none))) ×
        Walks p (behind p (node forms.DeclaratorNode w f l (more (plain_of e) none)))
    unfolding inside behind_parts later
    array_of_one e h np r a so =
        let P = more (plain_of e) none in
        let x = part_either follow asked names p s be.plainly (be.gives, be.alone) e h np r so.0.0 in
        let sp = ap (λ b. if b then Some (is_const (word_of (plain_of e))) else None) x.no_star.0 in
        let tm = and_false (nat_le 1 (dimensions_in w)) (too_many_initialisers (declarator_in w f P)
        (dims_of (declarator_in w f P))) (ap (nat_le 1) a.one) (so.1.0 faults.ArrayLength) in
        let dims = count_fits (declarator_in w f P) (dims_of (declarator_in w f P)) tm in
        let c = constant_there (constant_of (plain_of e)) dims.0 (sym (array_lengths w f P a.one a.unset sp) ∙ dims.1)
        in
        by h c.0 c.1 x sp
      where
        by : IsExpressionOf true e ⊎ IsListOf true e → (c : Constant) → constant_of (plain_of e) ≡ Some c →
            PartSame asked p s (plain_of e) (scalar (marked names e)) → star_in (more (plain_of e) none) ≡ None →
            SoundBut asked s roles.Other (node forms.DeclaratorNode w f l
            (more (length_or_part v (marked names e)) none)) ×
            Beside asked (with_name names q (pointer_to v type)) n
            (behind p (node forms.DeclaratorNode w f l (more (plain_of e) none)))
            (behind s (node forms.DeclaratorNode w f l (more (length_or_part v (marked names e)) none))) ×
            Walks p (behind p (node forms.DeclaratorNode w f l (more (plain_of e) none)))
        by (inr h) c ec x sp = absurd (none-some c (sym (list_no_constant e h) ∙ ec))
        by (inl h) c ec x sp =
            let k = constant_number p (plain_of e) (plain_made e h) c ec in
            let good : Good asked s roles.Other (scalar (marked names e)) (kinds.Number k.0 k.1) = record {
              made = scalar_made names e h;
              sound = x.sound;
              kind = x.kind ∙ k.2;
            } in
            let g = (length_good asked s v (scalar (marked names e)) k.0 k.1 few good).1 in
            let L = length_at v (scalar (marked names e)) in
            let ss = ap (λ b. if b then Some (is_const (word_of L)) else None) (made_no_star L g.made).0 in
            subst (λ z. SoundBut asked s roles.Other (node forms.DeclaratorNode w f l (more z none)) ×
            Beside asked (with_name names q (pointer_to v type)) n
            (behind p (node forms.DeclaratorNode w f l (more (plain_of e) none)))
            (behind s (node forms.DeclaratorNode w f l (more z none))) ×
            Walks p (behind p (node forms.DeclaratorNode w f l (more (plain_of e) none)))) (sym (length_is v names e h))
            (shown (more (plain_of e) none) (more L none) a.one a.unset sp ss x.plain' (neutral s L g.made) (
              g.sound,
              tt,
            )
            so)

    -- there is one
    wrong_count : {A : Type 0} (P : Forest) → dimensions_in w ≡ 1 → is_set w ≡ false → star_in P ≡ None →
        nat_eq (length (listed P)) 1 ≡ false → SoundTree asked p roles.Other (node forms.DeclaratorNode w f l P) → A
    wrong_count P one un sp e so =
        let tm = and_false (nat_le 1 (dimensions_in w)) (too_many_initialisers (declarator_in w f P)
        (dims_of (declarator_in w f P))) (ap (nat_le 1) one) (so.1.0 faults.ArrayLength) in
        let dims = count_fits (declarator_in w f P) (dims_of (declarator_in w f P)) tm in
        absurd (none-some dims.0 (sym (array_lengths w f P one un sp ∙
        ap (λ b. if b then allowed (lengths_in (listed P)) else None) e) ∙ dims.1))

    -- the array of elements that stands for one of vectors
    pub array_declarator : (ps : Forest) → IsDeclaratorOf true (node forms.DeclaratorNode w f l ps) → NoPoints ps →
        AllStay (marked_parts forms.DeclaratorNode ps names true ps) → IsArrayAt w ps →
        SoundTree asked p roles.Other (plain_of (node forms.DeclaratorNode w f l ps)) →
        SoundBut asked s roles.Other (node forms.DeclaratorNode w f l
        (lengths_at v (marked_parts forms.DeclaratorNode ps names true ps))) ×
        Beside asked (with_name names q (pointer_to v type)) n (behind p (plain_of (node forms.DeclaratorNode w f l
        ps)))
        (behind s (node forms.DeclaratorNode w f l
        (lengths_at v (marked_parts forms.DeclaratorNode ps names true ps)))) ×
        Walks p (behind p (plain_of (node forms.DeclaratorNode w f l ps)))
    unfolding plain_of plains_of marked_parts
    array_declarator none h np r a so = wrong_count none a.one a.unset refl refl so
    array_declarator (more (node forms.StarNode w' f' l' none) ps) h np r a so = absurd (none-some (is_const w') (sym
        a.no_star))
    array_declarator (more (node form w' f' l' qs) none) h np r a so =
        array_of_one (node form w' f' l' qs) h np.0 r.0 a so
    array_declarator (more (node form w' f' l' qs) (more e es)) h np r a so =
        let t = plain_of (node form w' f' l' qs) in
        let sp = ap (λ b. if b then Some (is_const (word_of t)) else None)
        (made_no_star t (plain_made (node form w' f' l' qs) h.0)).0 in
        wrong_count (more t (more (plain_of e) (plains_of es))) a.one a.unset sp (several (length (listed (plains_of
        es)))) so
