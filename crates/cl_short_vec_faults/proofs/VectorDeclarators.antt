-- Declarators behind a vector type, without initialisers: what stands for them in one node.
use Rattle.std.proofs.Common.{◌≡◌, ℕ, suc, ◌≤◌, nat_eq, List, [], Option, None, Some, Bool, true, false, ◌&&◌, refl}
use Rattle.std.proofs.Common.{if◌then◌else◌, ap, sym, ◌∙◌, subst, inl, inr, ◌⊎◌}
use Rattle.std.proofs.lemmas.Bool.{false≢true}
use Rattle.cl_model.specs.declared.program.Space.{Space}
use Rattle.cl_tree.specs.declared.tree.Form.{Form}
use Rattle.cl_tree.specs.declared.tree.Form.TheVariants as forms
use Rattle.cl_tree.specs.Syntax.{Syntax, node, Forest, none, more, joined, last_of}
use Rattle.cl_tree.specs.Nodes.{forest1}
use Rattle.cl_meaning.specs.Spelling.{name_in, dimensions_in}
use Rattle.cl_meaning.specs.Types.{space_among}
use Rattle.cl_meaning.specs.declared.kind.Role.TheVariants as roles
use Rattle.cl_meaning.specs.Environment.{Env}
use Rattle.cl_meaning.specs.Kinds.{is_some}
use Rattle.cl_meaning.specs.Declarations.{word_of, parts_of, name_token, star_in, declarator_in}
use Rattle.cl_meaning.specs.Visible.{Before, is_front, inside, later, behind, behind_parts, kind_of}
use Rattle.cl_meaning.specs.Faults.{Asked}
use Rattle.cl_check_sound.specs.Shape.{IsDeclaratorOf, AreDeclaratorsOf}
use Rattle.cl_check_sound.specs.Sound.{SoundTree, SoundParts}
use Rattle.cl_short_vec.specs.declared.types.Vector.{Vector}
use Rattle.cl_short_vec.specs.declared.kinds.Reach.TheVariants.{Variable}
use Rattle.cl_short_vec.specs.declared.kinds.Kind.TheVariants.{Vectors}
use Rattle.cl_short_vec.specs.declared.roles.Around.{Around}
use Rattle.cl_short_vec.specs.declared.roles.Around.TheVariants as around
use Rattle.cl_short_vec.specs.Types.{vector_type, numbers}
use Rattle.cl_short_vec.specs.Kinds.{Names, with_name, is_variable, declared_kind, pointer_to, behind_declarator}
use Rattle.cl_short_vec.specs.Kinds.{behind_declarators}
use Rattle.cl_short_vec.specs.Kinds as kinds
use Rattle.cl_short_vec.specs.Marks.{Marks, marked, marked_parts}
use Rattle.cl_short_vec.specs.declared.kinds.Kind as vectors
use Rattle.cl_short_vec.specs.Faults.{refusals}
use Rattle.cl_short_vec.specs.Unit.{declared_name, component_declarators, lengths_at, declarators_by, declarators_of}
use Rattle.cl_short_vec.specs.Unit.{all_declarators}
use Rattle.cl_short_vec_faults.specs.PlainForm.{plain_of, plains_of}
use Rattle.cl_short_vec_faults.specs.Plainly.{NoPoints}
use Rattle.cl_short_vec_faults.specs.Law.{ExpressionsFollow}
use Rattle.cl_short_vec_faults.specs.SoundBut.{AllSoundBut}
use Rattle.cl_short_vec_faults.specs.Beside.{IsName, Beside}
use Rattle.cl_short_vec_faults.specs.UnitLaw.{AllDeclaredNames}
use Rattle.cl_short_vec_faults.proofs.Ordered.{Ordered, OrderedIn}
use Rattle.cl_short_vec_faults.proofs.PlainDeclarators.{Walks, walks_same, walks_then}
use Rattle.cl_short_vec_faults.proofs.PlainDeclarations.{AllStayAs, declarator_free, declarators_next}
use Rattle.cl_short_vec_faults.proofs.PlainDeclarations.{declarators_behind}
use Rattle.cl_short_vec_faults.proofs.PlainDeclarations.{no_parts}
use Rattle.cl_short_vec_faults.proofs.VectorStays.{components_of_type, declaring, Stays, declarator_stays, placed_cases}
use Rattle.cl_short_vec_faults.proofs.VectorStays.{IsVariableAt, IsArrayAt}
use Rattle.cl_short_vec_faults.proofs.VectorArrays.{array_declarator}
use Rattle.cl_short_vec_faults.proofs.VectorVariables.{components_declared, private_kept}
use Rattle.cl_short_vec_faults.proofs.VectorInitials.{plains_leave, plains_star, starless_lengths, head_initial}

-- ---- trees one behind the other

module _ (asked : Asked) (form : Form) where
  pub joined_sound : (a b : Forest) (s : Env) (k : ℕ) → AllSoundBut asked s form (Some k) a →
      ((m : ℕ) → AllSoundBut asked (behind_parts s form false a) form (Some m) b) →
      AllSoundBut asked s form (Some k) (joined a b)
  unfolding behind_parts
  joined_sound none b s k x y = y k
  joined_sound (more p ps) b s k x y =
      (x.0, joined_sound ps b (later (behind s p) form false p (kind_of s p)) (last_of p) x.1 y)

  pub joined_behind : (a b : Forest) (s : Env) →
      behind_parts s form false (joined a b) ≡ behind_parts (behind_parts s form false a) form false b
  unfolding behind_parts
  joined_behind none b s = refl
  joined_behind (more p ps) b s = joined_behind ps b (later (behind s p) form false p (kind_of s p))

-- ---- one declarator

array_no_zero : (n : ℕ) → n ≡ 1 → nat_eq n 0 ≡ false
array_no_zero n e = ap (λ z. nat_eq z 0) e

module _ (follow : ExpressionsFollow) (asked : Asked) (n : ℕ) (v : Vector) (few : v.count ≤ 16) (type : Syntax) where
  abbrev its_space : Option Space
  its_space = space_among (parts_of type)

  -- where a variable has no initialiser
  pub one_vector : (a : Around) (names : Names) (p s : Env) → Beside asked names n p s →
      p.declared ≡ Some (components_of_type v type) → (w : List ℕ) (f l : ℕ) (ps : Forest) →
      IsDeclaratorOf true (node forms.DeclaratorNode w f l ps) → NoPoints ps → IsName (name_in w) →
      refusals (declaring a v its_space) (marked names (node forms.DeclaratorNode w f l ps)) ≡ [] →
      (is_variable w ps ≡ true → star_in ps ≡ None → (declarator_in w f (plains_of ps)).init ≡ None) →
      SoundTree asked p roles.Other (plain_of (node forms.DeclaratorNode w f l ps)) → (k : ℕ) →
      AllSoundBut asked s forms.DeclareNode (Some k)
      (declarators_of v (marked names (node forms.DeclaratorNode w f l ps))) ×
      Beside asked (with_name names (name_in w) (declared_kind v type (node forms.DeclaratorNode w f l ps))) n
      (behind p (plain_of (node forms.DeclaratorNode w f l ps))) (behind_parts s forms.DeclareNode false
      (declarators_of v (marked names (node forms.DeclaratorNode w f l ps)))) ×
      Walks p (behind p (plain_of (node forms.DeclaratorNode w f l ps)))
  unfolding marked plain_of
  one_vector a names p s be typed w f l ps h np i r un so k =
      by (placed_cases a its_space w ps (declarator_stays a v its_space names w f l ps r).placed)
    where
      t : Syntax
      t = node forms.DeclaratorNode w f l ps

      P : Syntax
      P = node forms.DeclaratorNode w f l (plains_of ps)

      q : List ℕ
      q = name_in w

      ms : Marks
      ms = marked_parts forms.DeclaratorNode ps names true ps

      Goal : Forest → vectors.Kind → Type 0
      Goal ds j = AllSoundBut asked s forms.DeclareNode (Some k) ds ×
          Beside asked (with_name names q j) n (behind p P) (behind_parts s forms.DeclareNode false ds) ×
          Walks p (behind p P)

      chosen : (b : Bool) → Forest
      chosen b = if b then component_declarators (declared_name t) (numbers 0 1 v.count) else
          forest1 (node forms.DeclaratorNode w f l (lengths_at v ms))

      by : IsVariableAt a its_space w ps ⊎ IsArrayAt w ps → Goal (declarators_by v t ms) (declared_kind v type t)
      by (inl x) =
          let hl = starless_lengths w f l ps h x.no_star in
          let g = components_declared asked names n p s be (components_of_type v type) typed w f l i (plains_of ps)
          x.single (plains_star p ps hl) (un x.variable x.no_star) (private_kept a its_space x.private)
          (plains_leave p true ps hl) so (name_token f ps) v refl few (Some k) false in
          subst (λ b. Goal (chosen b) (declared_kind v type t)) (sym (ap (λ z. nat_eq z 0) x.single))
          (subst (λ b. Goal (chosen true) (if b then Vectors v Variable else pointer_to v type)) (sym x.variable) g)
      by (inr x) =
          let D = node forms.DeclaratorNode w f l (lengths_at v ms) in
          let g = array_declarator follow asked names n p s be v few type typed w f l i ps h np
          (declarator_free (record { around = a; vector = Some v; space = its_space }) names w f l ps
          (ap (λ z. z && is_some (Some v)) x.array) r) x so in
          let e = declarators_behind s false D none refl ∙ no_parts (behind s D) false in
          let g' : Goal (forest1 D) (pointer_to v type) = (
            (g.0, tt),
            subst (λ z. Beside asked (with_name names q (pointer_to v type)) n (behind p P) z) (sym e) g.1,
            g.2,
          ) in
          subst (λ b. Goal (chosen b) (declared_kind v type t)) (sym (array_no_zero (dimensions_in w) x.one))
          (subst (λ b. Goal (chosen false) (if b then Vectors v Variable else pointer_to v type)) (sym x.array) g')

-- ---- all of them, in one node

-- in the unit, and in the head of a `for`
abbrev pub IsOneNode : Around → Type 0
IsOneNode around.Block = ⊥
IsOneNode a = Unit {0}

-- there no variable has an initialiser
no_initial : (a : Around) → IsOneNode a → (asked : Asked) (p : Env) (v : Vector) (space : Option Space)
    (names : Names) (w : List ℕ) (f l : ℕ) (ps : Forest) → IsDeclaratorOf true (node forms.DeclaratorNode w f l ps) →
    NoPoints ps → Ordered (node forms.DeclaratorNode w f l ps) → Stays a v space names w f l ps →
    is_variable w ps ≡ true → star_in ps ≡ None → SoundParts asked p forms.DeclaratorNode None (plains_of ps) →
    (declarator_in w f (plains_of ps)).init ≡ None
no_initial around.Block o asked p v space names w f l ps h np r st va ss so = absurd o
no_initial around.Head o asked p v space names w f l ps h np r st va ss so =
    (head_initial asked p v space names w f l ps h np r st va ss so).1
no_initial around.Unit o asked p v space names w f l ps h np r st va ss so =
    absurd (outside (placed_cases around.Unit space w ps st.placed))
  where
    outside : IsVariableAt around.Unit space w ps ⊎ IsArrayAt w ps → ⊥
    outside (inl x) = false≢true x.private
    outside (inr x) = false≢true (sym x.array ∙ va)

-- what a declarator behind a vector type declares
pub behind_vector : (names : Names) (type d : Syntax) (v : Vector) → vector_type type ≡ Some v →
    behind_declarator names type d ≡ with_name names (name_in (word_of d)) (declared_kind v type d)
behind_vector names type d v e = ap (λ o. kinds.behind_declared o names type d) e

module _ (follow : ExpressionsFollow) (asked : Asked) (n : ℕ) (v : Vector) (few : v.count ≤ 16) (type : Syntax)
    (vector : vector_type type ≡ Some v) (a : Around) (one : IsOneNode a) where
  pub vector_declarators : (ds all : Forest) (names : Names) (p s : Env) (bp : Before) (k i m : ℕ) →
      AreDeclaratorsOf true ds → NoPoints ds → AllDeclaredNames ds → OrderedIn i ds m →
      AllStayAs (declaring a v (space_among (parts_of type)))
      (marked_parts forms.DeclareNode (more type all) names false ds) → Beside asked names n p s →
      p.declared ≡ Some (components_of_type v type) → SoundParts asked p forms.DeclareNode bp (plains_of ds) →
      AllSoundBut asked s forms.DeclareNode (Some k)
      (all_declarators v (marked_parts forms.DeclareNode (more type all) names false ds)) ×
      Beside asked (behind_declarators names type ds) n (behind_parts p forms.DeclareNode false (plains_of ds))
      (behind_parts s forms.DeclareNode false
      (all_declarators v (marked_parts forms.DeclareNode (more type all) names false ds))) ×
      Walks p (behind_parts p forms.DeclareNode false (plains_of ds))
  unfolding marked_parts plain_of plains_of inside
  vector_declarators none all names p s bp k i m h np dn o r be typed so = (
    tt,
    subst (λ z. Beside asked names n z (behind_parts s forms.DeclareNode false none)) (sym (no_parts p false))
        (subst (λ z. Beside asked names n p z) (sym (no_parts s false)) be),
    subst (Walks p) (sym (no_parts p false)) (walks_same p),
  )
  vector_declarators (more (node forms.DeclaratorNode w f l ps) ds) all names p s bp k i m h np dn o r be typed so =
      let t = node forms.DeclaratorNode w f l ps in
      let P = node forms.DeclaratorNode w f l (plains_of ps) in
      let after = behind_declarator names type t in
      let these = declarators_of v (marked names t) in
      let others = all_declarators v (marked_parts forms.DeclareNode (more type all) after false ds) in
      let p' = behind p P in
      let s' = behind_parts s forms.DeclareNode false these in
      let st = declarator_stays a v (space_among (parts_of type)) names w f l ps r.0 in
      let x = one_vector follow asked n v few type a names p s be typed w f l ps h.0 np.0.1
      dn.0.0 r.0
      (λ va ss. no_initial a one asked p v (space_among (parts_of type)) names w f l ps h.0 np.0.1 o.1 st va ss so.0.0)
      so.0 k in
      let be' = subst (λ z. Beside asked z n p' s') (sym (behind_vector names type t v vector)) x.1 in
      let so' = subst (λ z. SoundParts asked z forms.DeclareNode (Some l) (plains_of ds))
      (declarators_next p' (is_front bp) P (kind_of p P) refl) so.1 in
      let y = λ (j : ℕ). vector_declarators ds all after p' s' (Some l) j (suc l) m h.1 np.1 dn.1 o.2 r.1 be'
      (x.2.declared' ∙ typed) so' in
      let ep = sym (declarators_behind p false P (plains_of ds) refl) in
      let es = sym (joined_behind asked forms.DeclareNode these others s) in (
        joined_sound asked forms.DeclareNode these others s k x.0 (λ j. (y j).0),
        subst (λ z. Beside asked (behind_declarators after type ds) n z
            (behind_parts s forms.DeclareNode false (joined these others))) ep
            (subst (λ z. Beside asked (behind_declarators after type ds) n
            (behind_parts p' forms.DeclareNode false (plains_of ds)) z) es (y 0).1),
        subst (Walks p) ep (walks_then p p' (behind_parts p' forms.DeclareNode false (plains_of ds)) x.2 (y 0).2),
      )
  vector_declarators (more t ds) all names p s bp k i m h np dn o r be typed so = absurd h.0
