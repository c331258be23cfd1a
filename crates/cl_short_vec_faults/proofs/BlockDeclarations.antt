-- A declaration in a block: it is at fault only where its plain form is, and what is visible goes on side by side
-- behind its lines.
use Rattle.std.proofs.Common.{◌≡◌, ℕ, suc, ◌≤◌, ◌<◌, ◌^◌, List, [], ◌∷◌, length, Option, None, Some, Bool, true, false}
use Rattle.std.proofs.Common.{not, ◌&&◌, ◌||◌, if◌then◌else◌, refl, ap, sym, ◌∙◌, subst, arith, inl, inr, ◌⊎◌}
use Rattle.std.proofs.lemmas.Bool.{false≢true}
use Rattle.std.specs.Prelude.{codes}
use Rattle.cl_model.specs.declared.program.Space.{Space}
use Rattle.cl_model.specs.declared.program.Space.TheVariants as spaces
use Rattle.cl_model.specs.declared.program.VarKind.TheVariants as var_kinds
use Rattle.cl_tree.specs.declared.tree.Form.TheVariants as forms
use Rattle.cl_tree.specs.Syntax.{Syntax, node, Forest, none, more, joined, last_of}
use Rattle.cl_meaning.specs.Spelling.{name_in, is_const, declared_in}
use Rattle.cl_meaning.specs.Types.{space_among}
use Rattle.cl_meaning.specs.declared.types.Declared.{Declared}
use Rattle.cl_meaning.specs.declared.fault.Fault.TheVariants as faults
use Rattle.cl_meaning.specs.declared.kind.Meaning.TheVariants as meanings
use Rattle.cl_meaning.specs.declared.kind.Role.TheVariants as roles
use Rattle.cl_meaning.specs.Environment.{Env, Scope, at_unit, is_declared}
use Rattle.cl_meaning.specs.Kinds.{is_some}
use Rattle.cl_meaning.specs.Declarations.{word_of, parts_of, star_in, declarator_in, last_kind}
use Rattle.cl_meaning.specs.Declarations.{with_variable, with_declarator, kept_in, initial_values}
use Rattle.cl_meaning.specs.Visible.{Before, is_front, inside, later, closed, behind, behind_parts, kind_of, kinds_of}
use Rattle.cl_meaning.specs.Faults.{Asked, given, is_known_name, no_program_variable, is_constant_space, all_constant}
use Rattle.cl_check_sound.specs.Shape.{IsType, IsExpressionOf, IsDeclaratorOf, AreDeclaratorsOf}
use Rattle.cl_check_sound.specs.Sound.{SoundTree, SoundParts}
use Rattle.cl_check_sound.proofs.Parts.{typed_env, declare_behind}
use Rattle.cl_short_vec.specs.declared.types.Vector.{Vector}
use Rattle.cl_short_vec.specs.declared.kinds.Reach.TheVariants.{Variable}
use Rattle.cl_short_vec.specs.declared.kinds.Kind.TheVariants.{Vectors}
use Rattle.cl_short_vec.specs.declared.roles.Around.TheVariants as around
use Rattle.cl_short_vec.specs.Types.{vector_type}
use Rattle.cl_short_vec.specs.Kinds as kinds
use Rattle.cl_short_vec.specs.Kinds.{Names, with_name, is_variable, declared_kind, behind_declarator}
use Rattle.cl_short_vec.specs.Kinds.{behind_declarators}
use Rattle.cl_short_vec.specs.Marks.{Mark, back, marked, marked_parts}
use Rattle.cl_short_vec.specs.Faults.{refusals, is_private_at}
use Rattle.cl_short_vec.specs.Order.{Named, initial_steps}
use Rattle.cl_short_vec.specs.Unit.{declared_name, declarators_of, initialiser, declarator_lines, vector_lines}
use Rattle.cl_short_vec.specs.Unit.{lines_of, initialiser_by}
use Rattle.cl_short_vec_faults.specs.PlainForm.{plain_of, plains_of}
use Rattle.cl_short_vec_faults.specs.Plainly.{NoPoints}
use Rattle.cl_short_vec_faults.specs.Law.{ExpressionsFollow}
use Rattle.cl_short_vec_faults.specs.SoundBut.{AllSoundBut}
use Rattle.cl_short_vec_faults.specs.Beside.{IsName, Beside}
use Rattle.cl_short_vec_faults.specs.Leaves.{NumbersAmong, InitialLeaves, AllLeavesFit}
use Rattle.cl_short_vec_faults.specs.UnitLaw.{AllDeclaredNames}
use Rattle.cl_short_vec_faults.proofs.InitialClaim.{InitialLinesFollow, set_declarator}
use Rattle.cl_short_vec_faults.proofs.Ordered.{Ordered, OrderedIn, ordered_le, ordered_in_le}
use Rattle.cl_short_vec_faults.proofs.Building.{NoFault}
use Rattle.cl_short_vec_faults.proofs.PlainForms.{type_plain}
use Rattle.cl_short_vec_faults.proofs.ConstantsSame.{type_same}
use Rattle.cl_short_vec_faults.proofs.LineAdds.{IsOwn, take_same}
use Rattle.cl_short_vec_faults.proofs.BesideMoves.{beside_later, beside_marked}
use Rattle.cl_short_vec_faults.proofs.SameDeclarators.{declarator_looked, first_false}
use Rattle.cl_short_vec_faults.proofs.DeclaredNames.{variable_declares}
use Rattle.cl_short_vec_faults.proofs.PlainDeclarators.{Walks, walks_same, walks_then, declares_walks}
use Rattle.cl_short_vec_faults.proofs.PlainDeclarators.{declarator_behind}
use Rattle.cl_short_vec_faults.proofs.PlainDeclarations.{AllStayAs, no_parts}
use Rattle.cl_short_vec_faults.proofs.PlainDeclarations.{declaration_sound, beside_typed, declarators_next}
use Rattle.cl_short_vec_faults.proofs.PlainDeclarations.{declarators_behind}
use Rattle.cl_short_vec_faults.proofs.VectorStays.{components_of_type, declaring, type_declared}
use Rattle.cl_short_vec_faults.proofs.VectorStays.{Stays, declarator_stays, placed_cases, IsVariableAt, IsArrayAt}
use Rattle.cl_short_vec_faults.proofs.UnsetDeclarators.{unset_kept}
use Rattle.cl_short_vec_faults.proofs.VectorVariables.{scalar_goes, private_kept}
use Rattle.cl_short_vec_faults.proofs.VectorInitials.{plains_leave, plains_star, starless_lengths, first_token}
use Rattle.cl_short_vec_faults.proofs.VectorInitials.{InitialPart, initial_cases}
use Rattle.cl_short_vec_faults.proofs.VectorDeclarators.{joined_sound, joined_behind, one_vector, behind_vector}

-- ---- with another type in front

-- as it was before the type
abbrev untyped : Env → Option Declared → Env
untyped p o = record p { declared = o }

retyped : (p : Env) (o : Option Declared) (T : Syntax) → p.declared ≡ declared_in T → typed_env (untyped p o) T ≡ p
retyped p o T e = ap (λ z. record p { declared = z }) (sym e)

-- out of a line that declares in front of other lines
beside_line : (asked : Asked) (names after : Names) (n m : ℕ) (p s p' is : Env) (o : Option Declared) →
    Beside asked names n (untyped p o) s → Beside asked after m p' is → Walks p p' →
    Beside asked after m (untyped p' o) (closed s is)
beside_line asked names after n m p s p' is o h i w =
    let x = h.plainly in
    let y = i.plainly in
    beside_marked asked after m p' is (untyped p' o) (closed s is) refl
    (take_same s.scopes is.scopes (y.depth ∙ (w.depth ∙ sym x.depth))) refl refl (x.owner ∙ sym w.owner) x.declared
    (x.flags ∙ sym w.flags) (w.flags ∙ h.unflagged) (x.in_body ∙ sym w.in_body) (x.in_loop ∙ sym w.in_loop')
    (x.in_switch ∙ sym w.in_switch')
    y.labels y.arrays y.tables i

-- out of the declaration
pub beside_lines : (asked : Asked) (after : Names) (m : ℕ) (plain p s : Env) →
    Beside asked after m (untyped p plain.declared) s → length p.scopes ≡ length plain.scopes →
    p.owner ≡ plain.owner → p.flags ≡ plain.flags → p.in_body ≡ plain.in_body → p.in_loop ≡ plain.in_loop →
    p.in_switch ≡ plain.in_switch → Beside asked after m (closed plain p) s
beside_lines asked after m plain p s h e ow fl ib il is =
    let x = h.plainly in
    beside_marked asked after m (untyped p plain.declared) s (closed plain p) s (take_same plain.scopes p.scopes e) refl
    refl refl (x.owner ∙ ow) x.declared (x.flags ∙ fl) (sym fl ∙ h.unflagged) (x.in_body ∙ ib) (x.in_loop ∙ il)
    (x.in_switch ∙ is) x.labels
    x.arrays x.tables h

-- ---- lines of a block

pub one_line : (env : Env) (t : Syntax) → behind_parts env forms.BlockNode false (more t none) ≡ behind env t
unfolding behind_parts later
one_line env t = refl

no_lines : (env : Env) → behind_parts env forms.BlockNode false none ≡ env
unfolding behind_parts
no_lines env = refl

pub any_before : (asked : Asked) (s : Env) (b c : Before) (ps : Forest) → AllSoundBut asked s forms.BlockNode b ps →
    AllSoundBut asked s forms.BlockNode c ps
unfolding later
any_before asked s b c none x = tt
any_before asked s b c (more p ps) x = x

-- ---- where a vector variable stands

pub private_own : (o : Option Space) → is_private_at around.Block o ≡ true → IsOwn o
private_own None h = tt
private_own (Some spaces.Private) h = tt
private_own (Some spaces.Global) h = absurd (false≢true h)
private_own (Some spaces.Constant) h = absurd (false≢true h)
private_own (Some spaces.Local) h = absurd (false≢true h)

no_constant : (o : Option Space) → is_private_at around.Block o ≡ true → is_constant_space o ≡ false
no_constant None h = refl
no_constant (Some spaces.Private) h = refl
no_constant (Some spaces.Global) h = absurd (false≢true h)
no_constant (Some spaces.Constant) h = absurd (false≢true h)
no_constant (Some spaces.Local) h = absurd (false≢true h)

and_true : (a b : Bool) → b ≡ true → (a && b) ≡ false → a ≡ false
and_true true b e h = absurd (false≢true (sym h ∙ e))
and_true false b e h = refl

two_scopes : (p : Env) → 1 ≤ length p.scopes → at_unit p ≡ false → 2 ≤ length p.scopes
two_scopes p h u = by p.scopes h u
  where
    by : (ss : List Scope) → 1 ≤ length ss → at_unit (record p { scopes = ss }) ≡ false → 2 ≤ length ss
    by [] h u = absurd (omega arith)
    by (s ∷ []) h u = absurd (false≢true (sym u))
    by (s ∷ (r ∷ rs)) h u = omega arith

star_none : (e : Syntax) → IsExpressionOf true e → star_in (more e none) ≡ None
star_none (node forms.StarNode w f l ps) h = absurd h
star_none (node form w f l ps) h = refl

-- ---- one declarator, in lines

module _ (follow : ExpressionsFollow) (initials : InitialLinesFollow) (asked : Asked) (outer : Names) (v : Vector)
    (few : v.count ≤ 16) (type : Syntax) (h : IsType type) (vector : vector_type type ≡ Some v) (o : Option Declared)
  where
    abbrev T : Syntax
    T = plain_of type

    abbrev mt : Mark
    mt = marked outer type

    abbrev d : Declared
    d = components_of_type v type

    abbrev its_space : Option Space
    its_space = space_among (parts_of type)

    hT : IsType T
    hT = type_plain type h

    module _ (names : Names) (n : ℕ) (p s : Env) (be : Beside asked names n (untyped p o) s)
        (typed : p.declared ≡ declared_in T) (sound_type : SoundTree asked s roles.Other T) (w : List ℕ) (f l : ℕ)
        (ps : Forest) (hd : IsDeclaratorOf true (node forms.DeclaratorNode w f l ps)) (np : NoPoints ps)
        (i : IsName (name_in w)) (le : n ≤ f) (ord : Ordered (node forms.DeclaratorNode w f l ps))
        (r : refusals (declaring around.Block v its_space) (marked names (node forms.DeclaratorNode w f l ps)) ≡ [])
        (so : SoundTree asked p roles.Other (plain_of (node forms.DeclaratorNode w f l ps))) where
      abbrev t : Syntax
      t = node forms.DeclaratorNode w f l ps

      abbrev q : List ℕ
      q = name_in w

      abbrev P : Syntax
      P = node forms.DeclaratorNode w f l (plains_of ps)

      typed' : p.declared ≡ Some d
      typed' = typed ∙ type_declared type v h vector

      -- what is to be shown
      abbrev Shown : Forest → Type 0
      Shown lines = ((b : Before) → AllSoundBut asked s forms.BlockNode b lines) ×
          Beside asked (with_name names q (declared_kind v type t)) (suc l) (untyped (behind p (plain_of t)) o)
          (behind_parts s forms.BlockNode false lines) × Walks p (behind p (plain_of t))

      later_beside : Beside asked names (suc l) (untyped p o) s
      later_beside = let a = ordered_le t ord in
          beside_later asked names n (suc l) (untyped p o) s (omega arith) be

      -- without an initialiser
      unset_line : (is_variable w ps ≡ true → star_in ps ≡ None → (declarator_in w f (plains_of ps)).init ≡ None) →
          Shown (declarator_lines v mt (marked names t) None)
      unfolding marked
      unset_line un =
          let S = declarators_of v (marked names t) in
          let bt = subst (λ z. Beside asked names (suc l) z (typed_env s T)) (retyped p o T typed)
          (beside_typed asked names (suc l) (untyped p o) s T later_beside) in
          let x = one_vector follow asked (suc l) v few type around.Block names p (typed_env s T) bt typed' w f l ps hd
          np i r
          un so (last_of T) in
          let is = behind_parts (typed_env s T) forms.DeclareNode false S in
          let line = λ (z : Syntax). node forms.DeclareNode (codes ";") f l (more z S) in
          let j = with_name names q (declared_kind v type t) in
          let g = beside_line asked names j (suc l) (suc l) p s (behind p (plain_of t)) is o later_beside x.1 x.2 in
          let sound = declaration_sound asked s (codes ";") f l T S hT sound_type x.0 in
          subst (λ z. Shown (more (line z) none)) (sym (type_same outer type h)) (
            (λ b. (sound, tt)),
            subst (λ z. Beside asked j (suc l) (untyped (behind p (plain_of t)) o) z)
                (sym (one_line s (line T) ∙ declare_behind s (codes ";") f l T S hT)) g,
            x.2,
          )

      -- with one
      initial_line : (x : IsVariableAt around.Block its_space w ps) (e : Syntax) → InitialPart asked p v names w f l ps
          e →
          p.in_body ≡ false → l < 2 ^ 64 →
          NumbersAmong p (initial_steps v (declared_name t) (marked names e)) →
          Shown (declarator_lines v mt (marked names t) (Some (marked names e)))
      unfolding marked plain_of
      initial_line x e y ib small nums =
          let hl = starless_lengths w f l ps hd x.no_star in
          let ep = plains_leave p true ps hl in
          let sp = plains_star p ps hl in
          let kp = kinds_of p forms.DeclaratorNode true (plains_of ps) in
          let nf = subst (NoFault asked) (declarator_looked p w f l (plains_of ps) ep) so.1.0 in
          let new = first_false (is_declared p q) (is_known_name p q) (nf faults.DeclaredTwice) in
          let inside' = and_true (at_unit p) (given p.declared (λ z. no_program_variable z
          (declarator_in w f (plains_of ps)))) (ap (λ z. given z (λ z. no_program_variable z
          (declarator_in w f (plains_of ps)))) typed' ∙ outside x.private) (nf faults.ProgramVariable) in
          let kept : kept_in p d ≡ spaces.Private =
          unset_kept asked p w f (plains_of ps) kp d typed' nf sp inside' ∙ private_kept around.Block its_space
          x.private in
          let token = first_token f ps x.no_star in
          let named : declared_name t ≡ declared_name (set_declarator w f l e) =
          ap (λ z. at_token z) (token ∙ sym (first_token f (more e none) (star_none e y.shape))) in
          let back' = sym (retyped p o T typed) in
          let g = initials asked outer names n (untyped p o) s (Some 0) v type w f l e (record {
            beside = be;
            inside' = two_scopes p be.open' inside';
            in_block = ib;
            typed = h;
            vector' = vector;
            own = private_own its_space x.private;
            single = x.single;
            set' = y.set';
            name' = i;
            new = new;
            ordered = y.ordered;
            behind' = le;
            few = small;
            shape = y.shape;
            no_point = y.no_point;
            stays = y.stays;
            same = y.same;
            leaves = subst (λ z. NumbersAmong z (initial_steps v (declared_name (set_declarator w f l e)) (marked names
                e)))
                back' (subst (λ z. NumbersAmong p (initial_steps v z (marked names e))) named nums);
            sound = subst (λ z. SoundTree asked z roles.Other (plain_of e)) back' y.sound;
          }) in
          let goes : behind p P ≡ with_variable p q f (var_kinds.Scalar v.of)
          (meanings.Scalar v.of (is_const (word_of type)) (length p.variables)) =
          declarator_behind p w f l (plains_of ps) ep ∙
          (ap (λ z. with_declarator p z (declarator_in w f (plains_of ps)) (last_kind kp)) typed' ∙
          (scalar_goes p d (declarator_in w f (plains_of ps)) (last_kind kp) sp x.single kept ∙
          ap (λ z. with_variable p q z (var_kinds.Scalar v.of)
          (meanings.Scalar v.of (is_const (word_of type)) (length p.variables))) (first_token f (plains_of ps) sp))) in
          let next = with_variable p q f (var_kinds.Scalar v.of)
          (meanings.Scalar v.of (is_const (word_of type)) (length p.variables)) in
          let walks = declares_walks p next q (meanings.Scalar v.of (is_const (word_of type)) (length p.variables))
          be.open'
          (variable_declares p q f (var_kinds.Scalar v.of)
          (meanings.Scalar v.of (is_const (word_of type)) (length p.variables))) in
          let lines = declarator_lines v mt (marked names (set_declarator w f l e)) (Some (marked names e)) in
          let same_lines : lines ≡ declarator_lines v mt (marked names t) (Some (marked names e)) =
          ap (λ z. lines_at z (marked names e)) (sym named) in
          let declares : declared_kind v type t ≡ Vectors v Variable =
          ap (λ b. if b then Vectors v Variable else kinds.pointer_to v type) x.variable in
          subst Shown same_lines (
            (λ b. any_before asked s (Some 0) b lines g.0),
            subst (λ z. Beside asked (with_name names q z) (suc l) (untyped (behind p P) o)
                (behind_parts s forms.BlockNode false lines)) (sym declares)
                (subst (λ z. Beside asked (with_name names q (Vectors v Variable)) (suc l) (untyped z o)
                (behind_parts s forms.BlockNode false lines)) (sym goes) g.1),
            subst (Walks p) (sym goes) walks,
          )
        where
          at_token : ℕ → Named
          at_token k = record { name = q; span = record { first = k; last = k } }

          lines_at : Named → Mark → Forest
          lines_at z m = lines_of (Some mt) (record {
            operator = None;
            of = v.of;
            target = z.span;
            components = [];
            value = m;
          }) (initial_steps v z m)

          outside : is_private_at around.Block its_space ≡ true →
              no_program_variable d (declarator_in w f (plains_of ps)) ≡ true
          outside pr = ap (λ z. not z || (is_some (declarator_in w f (plains_of ps)).star ||
              (not (is_some (declarator_in w f (plains_of ps)).init) ||
              not (all_constant (initial_values (declarator_in w f (plains_of ps)).init))))) (no_constant its_space pr)

      -- by what it is
      declarator_line : p.in_body ≡ false → l < 2 ^ 64 →
          InitialLeaves p (Some v) (marked names t) (initialiser (marked names t)) →
          Shown (declarator_lines v mt (marked names t) (initialiser (marked names t)))
      unfolding marked plain_of inside
      declarator_line ib small leaves = by (placed_cases around.Block its_space w ps st.placed)
        where
          st : Stays around.Block v its_space names w f l ps
          st = declarator_stays around.Block v its_space names w f l ps r

          none_at : initialiser (marked names t) ≡ None → Shown (declarator_lines v mt (marked names t) None) →
              Shown (declarator_lines v mt (marked names t) (initialiser (marked names t)))
          none_at e g = subst (λ z. Shown (declarator_lines v mt (marked names t) z)) (sym e) g

          variable : IsVariableAt around.Block its_space w ps →
              ((initialiser (marked names t) ≡ None) × ((declarator_in w f (plains_of ps)).init ≡ None)) ⊎
              ((e : Syntax) × InitialPart asked p v names w f l ps e) →
              Shown (declarator_lines v mt (marked names t) (initialiser (marked names t)))
          variable x (inl y) = none_at y.0 (unset_line (λ va ss. y.1))
          variable x (inr (e, y)) = subst (λ z. Shown (declarator_lines v mt (marked names t) z)) (sym y.at)
              (initial_line x e y ib small (subst (λ z. InitialLeaves p (Some v) (marked names t) z) y.at leaves))

          by : IsVariableAt around.Block its_space w ps ⊎ IsArrayAt w ps →
              Shown (declarator_lines v mt (marked names t) (initialiser (marked names t)))
          by (inl x) = variable x (initial_cases asked p v its_space names w f l ps hd np ord st x.variable x.no_star
              so.0)
          by (inr x) =
              none_at (ap (λ b. initialiser_by b (back (marked_parts forms.DeclaratorNode ps names true ps))) x.unset)
              (unset_line (λ va ss. absurd (false≢true (sym x.array ∙ va))))

    -- ---- all of them

    pub declarator_lines_follow : (ds all : Forest) (names : Names) (p s : Env) (bp : Before) (k n i m : ℕ) → n ≤ i →
        AreDeclaratorsOf true ds → NoPoints ds → AllDeclaredNames ds → OrderedIn i ds m →
        m ≤ 2 ^ 64 →
        AllStayAs (declaring around.Block v its_space) (marked_parts forms.DeclareNode (more type all) names false ds) →
        Beside asked names n (untyped p o) s → p.declared ≡ declared_in T → p.in_body ≡ false →
        ((z : Env) → SoundTree asked z roles.Other T) →
        SoundParts asked p forms.DeclareNode bp (plains_of ds) →
        AllLeavesFit p forms.DeclareNode false (Some v) (marked_parts forms.DeclareNode (more type all) names false ds)
        →
        AllSoundBut asked s forms.BlockNode (Some k)
        (vector_lines v mt (marked_parts forms.DeclareNode (more type all) names false ds)) ×
        Beside asked (behind_declarators names type ds) m
        (untyped (behind_parts p forms.DeclareNode false (plains_of ds)) o) (behind_parts s forms.BlockNode false
        (vector_lines v mt (marked_parts forms.DeclareNode (more type all) names false ds))) ×
        Walks p (behind_parts p forms.DeclareNode false (plains_of ds))
    unfolding marked_parts plain_of plains_of AllLeavesFit marked
    declarator_lines_follow none all names p s bp k n i m le hs np dn ord few' r be typed ib st so lv = (
      tt,
      subst (λ z. Beside asked names m (untyped z o) (behind_parts s forms.BlockNode false none)) (sym (no_parts p
          false))
          (subst (λ z. Beside asked names m (untyped p o) z) (sym (no_lines s))
          (beside_later asked names n m (untyped p o) s (let a = ordered_in_le none i m ord in omega arith) be)),
      subst (Walks p) (sym (no_parts p false)) (walks_same p),
    )
    declarator_lines_follow (more (node forms.DeclaratorNode w f l ps) ds) all names p s bp k n i m le hs np dn ord
        few' r
        be typed ib st so lv =
        let c = node forms.DeclaratorNode w f l ps in
        let C = node forms.DeclaratorNode w f l (plains_of ps) in
        let after = behind_declarator names type c in
        let these = declarator_lines v mt (marked names c) (initialiser (marked names c)) in
        let others = vector_lines v mt (marked_parts forms.DeclareNode (more type all) after false ds) in
        let p' = behind p C in
        let s' = behind_parts s forms.BlockNode false these in
        let a = ord.0 in
        let small : suc l ≤ m = ordered_in_le ds (suc l) m ord.2 in
        let x = declarator_line names n p s be typed (st s) w f l ps hs.0 np.0.1
        dn.0.0 (omega arith) ord.1 r.0 so.0 ib
        (omega arith) lv.0 in
        let be' = subst (λ z. Beside asked z (suc l) (untyped p' o) s') (sym (behind_vector names type c v vector)) x.1
        in
        let e = declarators_next p' (is_front bp) C (kind_of p C) refl in
        let e' = declarators_next p' false C (kind_of p C) refl in
        let so' = subst (λ z. SoundParts asked z forms.DeclareNode (Some l) (plains_of ds)) e so.1 in
        let lv' = subst (λ z. AllLeavesFit z forms.DeclareNode false (Some v)
        (marked_parts forms.DeclareNode (more type all) after false ds)) e' lv.2 in
        let y = λ (j : ℕ). declarator_lines_follow ds all after p' s' (Some l) j (suc l) (suc l) m (omega arith) hs.1
        np.1
        dn.1 ord.2 few' r.1 be' (x.2.declared' ∙ typed) (x.2.in_body ∙ ib) st so' lv' in
        let ep = sym (declarators_behind p false C (plains_of ds) refl) in
        let es = sym (joined_behind asked forms.BlockNode these others s) in (
          joined_sound asked forms.BlockNode these others s k (x.0 (Some k)) (λ j. (y j).0),
          subst (λ z. Beside asked (behind_declarators after type ds) m (untyped z o)
              (behind_parts s forms.BlockNode false (joined these others))) ep
              (subst (λ z. Beside asked (behind_declarators after type ds) m
              (untyped (behind_parts p' forms.DeclareNode false (plains_of ds)) o) z) es (y 0).1),
          subst (Walks p) ep (walks_then p p' (behind_parts p' forms.DeclareNode false (plains_of ds)) x.2 (y 0).2),
        )
    declarator_lines_follow (more c ds) all names p s bp k n i m le hs np dn ord few' r be typed ib st so lv = absurd
        hs.0
