-- What the grammar spells is read, whatever stands behind it that cannot belong to it: lists, types and declarations.
use Rattle.std.proofs.Common.{subst, sym, ◌≡◌, ℕ, suc, ◌≤◌, max, Bool, true, false, List, [], ◌∷◌, ◌++◌, refl, ap}
use Rattle.std.proofs.Common.{◌∙◌, append_assoc, eq-eqb, arith}
use Rattle.cl_tree.specs.declared.terminal.Terminal.{Terminal}
use Rattle.cl_tree.specs.declared.terminal.Terminal.TheVariants as terminals
use Rattle.cl_tree.specs.declared.terminal.Leaf.{Leaf}
use Rattle.cl_tree.specs.Precedence.{qualifies}
use Rattle.cl_tree.specs.Syntax.{Syntax, Forest, none, more, joined, nesting, deepest}
use Rattle.cl_tree.specs.Nodes.{Spot, tok, declarator_node, declarator_set_node, declare_node}
use Rattle.cl_tree.specs.Grammar as grammar
use Rattle.cl_tree.specs.Grammar.{Sort, TypeName, Base, Star, Declare, Declarator, Dimension, Init}
use Rattle.cl_tree.specs.Grammar.{Initializers, Elements, Assign, Cond, Qualifier, Maybe, Many, Comma, Space, one}
use Rattle.cl_tree.specs.Grammar.{list, Spells}
use Rattle.cl_read.specs.Starts.{code, starts_type, starts_core, starts_expression, starts_declarator}
use Rattle.cl_read.specs.Reading.{Got, after, Reader, done, begins, is, Listing, appended, all_of, behind_comma}
use Rattle.cl_read.specs.Reading.{unless, Readers, qualifier_of, qualifiers, core_of, base_of, space_of, star_of}
use Rattle.cl_read.specs.Reading.{front_of, behind_of, type_of, dimension_of, init_of, declared, declarator_of}
use Rattle.cl_read.specs.Reading.{declare_rest, declare_of, element_of, initializers_of}
use Rattle.cl_read.proofs.Tails.{absent, included, excluded, not_begun}
use Rattle.cl_read.proofs.First.{is_expression, expression_first}
use Rattle.cl_read.proofs.ListRules.{Shrinks, all_stops, all_goes, onward}
use Rattle.cl_read.proofs.Sound.{Tree_of, AllGood, commas_shrink, qualifiers_shrink, dimensions_shrink, elements_shrink}
use Rattle.cl_read.proofs.Follow.{Behind, behind_not, AllFull, onto}

pub deepest_joined : (ts us : Forest) → deepest (joined ts us) ≡ max (deepest ts) (deepest us)
deepest_joined none us = omega arith
deepest_joined (more t ts) us = omega (arith, deepest_joined ts us)

-- ---- lists

abbrev pub listing : List Spot → Forest → Listing
listing a ts = record { own = a; parts = ts }

module _ (test : Terminal → Bool) (p : Reader (Bool × Listing)) (s : Sort) (shrink : Shrinks test p) (n : ℕ)
    (Follows : List Leaf → Type 0)
    (reads : (a : List Spot) (ts : Forest) (x : List Leaf) → Spells s (list a ts) x → deepest ts ≤ n →
    (rest : List Leaf) → Follows rest → p (x ++ rest) ≡ Got (true, listing a ts) rest)
    (first : (a : List Spot) (ts : Forest) (x : List Leaf) → Spells s (list a ts) x → (rest : List Leaf) →
    begins test (x ++ rest) ≡ true)
    (keeps : (a : List Spot) (ts : Forest) (x : List Leaf) → Spells s (list a ts) x → (rest : List Leaf) →
    Follows (x ++ rest)) where
  pub many_follow : {a : List Spot} {ts : Forest} {x : List Leaf} → Spells (Many s) (list a ts) x →
      (rest : List Leaf) → Follows rest → Follows (x ++ rest)
  many_follow grammar.many_end rest q = q
  many_follow (grammar.many_more {a = a} {ts = ts} {x = x} h {y = y} i) rest q =
      subst Follows (sym (append_assoc x y rest)) (keeps a ts x h (y ++ rest))

  pub many_read : {a : List Spot} {ts : Forest} {x : List Leaf} → Spells (Many s) (list a ts) x → deepest ts ≤ n →
      (rest : List Leaf) → Follows rest → begins test rest ≡ false → all_of test p (x ++ rest) ≡ Got (listing a ts) rest
  many_read grammar.many_end d rest q b = all_stops test p rest b
  many_read (grammar.many_more {a = a} {ts = ts} {x = x} h {b = c} {us = us} {y = y} i) d rest q b =
      ap (all_of test p) (append_assoc x y rest) ∙
      all_goes test p shrink (x ++ (y ++ rest)) (first a ts x h (y ++ rest))
      ∙ onto (onward test p) (reads a ts x h (omega (arith, deepest_joined ts us)) (y ++ rest) (many_follow i rest q))
      (onto (λ l. done (appended (listing a ts) l)) (many_read i (omega (arith, deepest_joined ts us)) rest q b) refl)

-- lists of trees behind commas
module _ (p : Reader Syntax) (s : Sort) (good : Shrinks (is terminals.Comma) (behind_comma p)) (n : ℕ)
    (reads : (t : Syntax) (x : List Leaf) → Tree_of s t x → nesting t ≤ n → (rest : List Leaf) → Behind 12 rest →
    p (x ++ rest) ≡ Got t rest) where
  comma_reads : (a : List Spot) (ts : Forest) (x : List Leaf) → Spells (Comma s) (list a ts) x → deepest ts ≤ n →
      (rest : List Leaf) → Behind 12 rest → behind_comma p (x ++ rest) ≡ Got (true, listing a ts) rest
  comma_reads a ts x (grammar.comma k {t = t} {x = y} h) d rest q = onto _ (reads t y h (omega arith) rest q) refl

  comma_first : (a : List Spot) (ts : Forest) (x : List Leaf) → Spells (Comma s) (list a ts) x → (rest : List Leaf) →
      begins (is terminals.Comma) (x ++ rest) ≡ true
  comma_first a ts x (grammar.comma k h) rest = refl

  comma_keeps : (a : List Spot) (ts : Forest) (x : List Leaf) → Spells (Comma s) (list a ts) x → (rest : List Leaf) →
      Behind 12 (x ++ rest)
  comma_keeps a ts x (grammar.comma k h) rest = refl

  pub commas_follow : {a : List Spot} {ts : Forest} {x : List Leaf} → Spells (Many (Comma s)) (list a ts) x →
      (rest : List Leaf) → Behind 12 rest → Behind 12 (x ++ rest)
  commas_follow h rest q = many_follow (is terminals.Comma) (behind_comma p) (Comma s) good n (Behind 12) comma_reads
      comma_first comma_keeps h rest q

  pub commas_read : {a : List Spot} {ts : Forest} {x : List Leaf} → Spells (Many (Comma s)) (list a ts) x →
      deepest ts ≤ n → (rest : List Leaf) → Behind 12 rest → begins (is terminals.Comma) rest ≡ false →
      all_of (is terminals.Comma) (behind_comma p) (x ++ rest) ≡ Got (listing a ts) rest
  commas_read h d rest q b = many_read (is terminals.Comma) (behind_comma p) (Comma s) good n (Behind 12) comma_reads
      comma_first comma_keeps h d rest q b

-- ---- an expression, or else the token behind it
module _ (k : Terminal) (p : Reader Syntax) (s : Sort) (e : is_expression s ≡ true) (not_first : starts_expression k ≡
    false) (n : ℕ) (reads : (t : Syntax) (x : List Leaf) → Tree_of s t x → nesting t ≤ n →
    (c : Spot) (rest : List Leaf) → p (x ++ (tok k c ∷ rest)) ≡ Got t (tok k c ∷ rest)) where
  pub unless_reads : {ts : Forest} {x : List Leaf} → Spells (Maybe s) (list [] ts) x → deepest ts ≤ n →
      (c : Spot) (rest : List Leaf) → unless (is k) p (x ++ (tok k c ∷ rest)) ≡ Got ts (tok k c ∷ rest)
  unless_reads grammar.maybe_none d c rest = rw (eq-eqb (code k) (code k) refl) refl
  unless_reads (grammar.maybe_some {t = t} {x = x} h) d c rest =
      let b : begins (is k) (x ++ (tok k c ∷ rest)) ≡ false =
      not_begun starts_expression k not_first (x ++ (tok k c ∷ rest)) (expression_first e h (tok k c ∷ rest)) in
      rw b (onto _ (reads t x h (omega arith) c rest) refl)

-- ---- types

qualifier_reads : (b : Bool) (a : List Spot) (ts : Forest) (x : List Leaf) → Spells (Qualifier b) (list a ts) x →
    deepest ts ≤ 0 → (rest : List Leaf) → Unit {0} → qualifier_of b (x ++ rest) ≡ Got (true, listing a ts) rest
unfolding qualifier_of
qualifier_reads b a ts x (grammar.qualifier j m q) d rest u = rw q refl

qualifier_begins : (b : Bool) (a : List Spot) (ts : Forest) (x : List Leaf) → Spells (Qualifier b) (list a ts) x →
    (rest : List Leaf) → begins (qualifies b) (x ++ rest) ≡ true
qualifier_begins b a ts x (grammar.qualifier j m q) rest = q

no_trees : {b : Bool} {a : List Spot} {ts : Forest} {x : List Leaf} → Spells (Many (Qualifier b)) (list a ts) x →
    ts ≡ none
no_trees grammar.many_end = refl
no_trees (grammar.many_more (grammar.qualifier j m q) i) = no_trees i

qualifiers_read : (b : Bool) {a : List Spot} {ts : Forest} {x : List Leaf} →
    Spells (Many (Qualifier b)) (list a ts) x → (rest : List Leaf) → begins (qualifies b) rest ≡ false →
    qualifiers b (x ++ rest) ≡ Got (listing a ts) rest
qualifiers_read b {ts = ts} h rest q =
    let flat : deepest ts ≡ 0 = ap deepest (no_trees h) in
    many_read (qualifies b) (qualifier_of b) (Qualifier b) (qualifiers_shrink b) 0 (λ r. Unit {0}) (qualifier_reads b)
    (qualifier_begins b) (λ a ts x h r. tt) h (omega arith) rest tt q

abbrev starts_base : Terminal → Bool
starts_base terminals.TypeWord = true
starts_base terminals.Sign = true
starts_base terminals.Char = true
starts_base terminals.Int = true
starts_base terminals.Length = true
starts_base _ = false

base_begins : {a : List Spot} {x : List Leaf} → Spells Base (list a none) x → (r : List Leaf) →
    begins starts_base (x ++ r) ≡ true
base_begins (grammar.base_word m) r = refl
base_begins (grammar.base_sign m) r = refl
base_begins (grammar.base_core (grammar.core_char m)) r = refl
base_begins (grammar.base_core (grammar.core_int m)) r = refl
base_begins (grammar.base_core (grammar.core_length m)) r = refl
base_begins (grammar.base_core (grammar.core_length_int m i)) r = refl
base_begins (grammar.base_sign_core m h) r = refl

base_no_qualifier : (j : Terminal) → starts_base j ≡ true → qualifies false j ≡ false
base_no_qualifier terminals.Qualifier e = absurd cc
base_no_qualifier _ e = refl

qualifier_no_core : (j : Terminal) → qualifies false j ≡ true → starts_core j ≡ false
qualifier_no_core terminals.Char e = absurd cc
qualifier_no_core terminals.Int e = absurd cc
qualifier_no_core terminals.Length e = absurd cc
qualifier_no_core _ e = refl

core_is_type : (j : Terminal) → starts_core j ≡ true → starts_type j ≡ true
core_is_type terminals.Char e = refl
core_is_type terminals.Int e = refl
core_is_type terminals.Length e = refl
core_is_type _ e = absurd cc

qualifier_is_type : (j : Terminal) → qualifies false j ≡ true → starts_type j ≡ true
qualifier_is_type terminals.Qualifier e = refl
qualifier_is_type _ e = absurd cc

no_qualifier : (rest : List Leaf) → begins starts_type rest ≡ false → begins (qualifies false) rest ≡ false
no_qualifier rest e = included starts_type (qualifies false) qualifier_is_type rest e

-- words behind a base do not go on with it
behind_base : {a : List Spot} {ts : Forest} {x : List Leaf} → Spells (Many (Qualifier false)) (list a ts) x →
    (rest : List Leaf) → begins starts_core rest ≡ false → begins starts_core (x ++ rest) ≡ false
behind_base grammar.many_end rest b = b
behind_base (grammar.many_more (grammar.qualifier j m q) i) rest b = qualifier_no_core j q

base_reads : {a : List Spot} {x : List Leaf} → Spells Base (list a none) x → (rest : List Leaf) →
    begins starts_core rest ≡ false → base_of (x ++ rest) ≡ Got a rest
unfolding base_of core_of
base_reads (grammar.base_word m) rest b = refl
base_reads (grammar.base_sign m) rest b = rw b refl
base_reads (grammar.base_core (grammar.core_char m)) rest b = refl
base_reads (grammar.base_core (grammar.core_int m)) rest b = refl
base_reads (grammar.base_core (grammar.core_length m)) rest b = let c : begins (is terminals.Int) rest ≡ false =
    absent starts_core terminals.Int refl rest b in rw c refl
base_reads (grammar.base_core (grammar.core_length_int m i)) rest b = refl
base_reads (grammar.base_sign_core s (grammar.core_char m)) rest b = refl
base_reads (grammar.base_sign_core s (grammar.core_int m)) rest b = refl
base_reads (grammar.base_sign_core s (grammar.core_length m)) rest b =
    let c : begins (is terminals.Int) rest ≡ false = absent starts_core terminals.Int refl rest b in rw c refl
base_reads (grammar.base_sign_core s (grammar.core_length_int m i)) rest b = refl

pub full_space : {t : Syntax} {x : List Leaf} → Spells Space (one t) x → (rest : List Leaf) →
    space_of (x ++ rest) ≡ Got t rest
unfolding space_of
full_space (grammar.space m) rest = refl

pub full_star : {t : Syntax} {x : List Leaf} → Spells Star (one t) x → (rest : List Leaf) →
    begins (qualifies true) rest ≡ false → star_of (x ++ rest) ≡ Got t rest
unfolding star_of
full_star (grammar.star o h) rest b = onto _ (qualifiers_read true h rest b) refl

module _ (n : ℕ) (low : Readers) (g : AllGood low) (f : AllFull low n) where
  pub full_type : {t : Syntax} {x : List Leaf} → Spells TypeName (one t) x → nesting t ≤ suc n → (rest : List Leaf) →
      begins starts_type rest ≡ false → type_of low (x ++ rest) ≡ Got t rest
  unfolding type_of front_of behind_of
  full_type (grammar.type_plain {a = a} {x = x} ha {y = y} hd {z = z} hc) d rest b =
      let base : begins starts_base (y ++ (z ++ rest)) ≡ true = base_begins hd (z ++ rest) in
      let one_ : begins (qualifies false) (y ++ (z ++ rest)) ≡ false =
      excluded starts_base (qualifies false) base_no_qualifier (y ++ (z ++ rest)) base in
      let two : begins (is terminals.Space) (y ++ (z ++ rest)) ≡ false =
      not_begun starts_base terminals.Space refl (y ++ (z ++ rest)) base in
      let three : begins (is terminals.Space) rest ≡ false = absent starts_type terminals.Space refl rest b in
      rw (append_assoc x (y ++ z) rest, append_assoc y z rest)
      (onto _ (qualifiers_read false ha (y ++ (z ++ rest)) one_)
      (rw two (onto _ (base_reads hd (z ++ rest)
      (behind_base hc rest (included starts_type starts_core core_is_type rest b)))
      (onto _ (qualifiers_read false hc rest (no_qualifier rest b)) (rw three refl)))))
  full_type (grammar.type_front {a = a} {x = x} ha (grammar.space m) {v = v} hb {y = y} hd {z = z} hc) d rest b =
      let base : begins starts_base (y ++ (z ++ rest)) ≡ true = base_begins hd (z ++ rest) in
      let one_ : begins (qualifies false) (y ++ (z ++ rest)) ≡ false =
      excluded starts_base (qualifies false) base_no_qualifier (y ++ (z ++ rest)) base in
      rw (
        append_assoc x (tok terminals.Space m ∷ (v ++ (y ++ z))) rest,
        append_assoc v (y ++ z) rest,
        append_assoc y z rest,
      )
      (onto _ (qualifiers_read false ha (tok terminals.Space m ∷ (v ++ (y ++ (z ++ rest)))) refl)
      (onto _ (f.space (grammar.space m) (omega arith) (v ++ (y ++ (z ++ rest))))
      (onto _ (qualifiers_read false hb (y ++ (z ++ rest)) one_)
      (onto _ (base_reads hd (z ++ rest) (behind_base hc rest (included starts_type starts_core core_is_type rest b)))
      (onto _ (qualifiers_read false hc rest (no_qualifier rest b)) refl)))))
  full_type (grammar.type_behind {a = a} {x = x} ha {y = y} hd {v = v} hb (grammar.space m) {z = z} hc) d rest b =
      let behind : List Leaf = v ++ (tok terminals.Space m ∷ (z ++ rest)) in
      let base : begins starts_base (y ++ (v ++ (tok terminals.Space m ∷ (z ++ rest)))) ≡ true =
      base_begins hd (v ++ (tok terminals.Space m ∷ (z ++ rest))) in
      let one_ : begins (qualifies false) (y ++ (v ++ (tok terminals.Space m ∷ (z ++ rest)))) ≡ false =
      excluded starts_base (qualifies false) base_no_qualifier (y ++ (v ++ (tok terminals.Space m ∷ (z ++ rest))))
      base in
      let two : begins (is terminals.Space) (y ++ (v ++ (tok terminals.Space m ∷ (z ++ rest)))) ≡ false =
      not_begun starts_base terminals.Space refl (y ++ (v ++ (tok terminals.Space m ∷ (z ++ rest)))) base in
      rw (
        append_assoc x (y ++ (v ++ (tok terminals.Space m ∷ z))) rest,
        append_assoc y (v ++ (tok terminals.Space m ∷ z)) rest,
        append_assoc v (tok terminals.Space m ∷ z) rest,
      )
      (onto _ (qualifiers_read false ha (y ++ (v ++ (tok terminals.Space m ∷ (z ++ rest)))) one_)
      (rw two (onto _ (base_reads hd (v ++ (tok terminals.Space m ∷ (z ++ rest)))
      (behind_base hb (tok terminals.Space m ∷ (z ++ rest)) refl))
      (onto _ (qualifiers_read false hb (tok terminals.Space m ∷ (z ++ rest)) refl)
      (onto _ (f.space (grammar.space m) (omega arith) (z ++ rest))
      (onto _ (qualifiers_read false hc rest (no_qualifier rest b)) refl))))))

  -- ---- declarations

  dimension_reads : (a : List Spot) (ts : Forest) (x : List Leaf) → Spells Dimension (list a ts) x → deepest ts ≤ n →
      (rest : List Leaf) → Unit {0} → dimension_of low (x ++ rest) ≡ Got (true, listing a ts) rest
  unfolding dimension_of
  dimension_reads a ts x (grammar.dimension o {x = y} h c) d rest u =
      rw (append_assoc y (tok terminals.CloseBracket c ∷ []) rest)
      (onto _ (unless_reads terminals.CloseBracket low.cond' Cond refl refl n (λ t z i e c r.
      f.cond' i e (tok terminals.CloseBracket c ∷ r) refl) h d c rest) refl)

  dimension_begins : (a : List Spot) (ts : Forest) (x : List Leaf) → Spells Dimension (list a ts) x →
      (rest : List Leaf) → begins (is terminals.OpenBracket) (x ++ rest) ≡ true
  dimension_begins a ts x (grammar.dimension o h c) rest = refl

  dimensions_read : {a : List Spot} {ts : Forest} {x : List Leaf} → Spells (Many Dimension) (list a ts) x →
      deepest ts ≤ n → (rest : List Leaf) → begins (is terminals.OpenBracket) rest ≡ false →
      all_of (is terminals.OpenBracket) (dimension_of low) (x ++ rest) ≡ Got (listing a ts) rest
  dimensions_read h d rest b = many_read (is terminals.OpenBracket) (dimension_of low) Dimension
      (dimensions_shrink low g) n (λ r. Unit {0}) dimension_reads dimension_begins (λ a ts x h r. tt) h d rest tt b

  init_reads : {t : Syntax} {x : List Leaf} → Spells Init (one t) x → nesting t ≤ n → (rest : List Leaf) →
      Behind 12 rest → init_of low (x ++ rest) ≡ Got t rest
  unfolding init_of
  init_reads (grammar.init_assign {x = x} h) d rest b =
      let c : begins (is terminals.OpenBrace) (x ++ rest) ≡ false =
      not_begun starts_expression terminals.OpenBrace refl (x ++ rest) (expression_first refl h rest) in
      rw c (f.assign h d rest b)
  init_reads (grammar.init_list (grammar.initializers o h i c)) d rest b =
      f.initializers (grammar.initializers o h i c) d rest

  pub declared_reads : (ss : Forest) (m : Spot) {a : List Spot} {ds : Forest} {y : List Leaf} →
      Spells (Many Dimension) (list a ds) y → deepest ds ≤ n → (rest : List Leaf) → Behind 12 rest →
      declared low ss m (y ++ rest) ≡ Got (declarator_node ss m a ds) rest
  unfolding declared
  declared_reads ss m h d rest b =
      let e : begins (is terminals.Equals) rest ≡ false = behind_not 12 terminals.Equals rest refl b in
      onto _ (dimensions_read h d rest (behind_not 12 terminals.OpenBracket rest refl b)) (rw e refl)

  pub declared_set_reads : (ss : Forest) (m : Spot) {a : List Spot} {ds : Forest} {y : List Leaf} →
      Spells (Many Dimension) (list a ds) y → deepest ds ≤ n → (e : Spot) {i : Syntax} {z : List Leaf} →
      Spells Init (one i) z → nesting i ≤ n → (rest : List Leaf) → Behind 12 rest →
      declared low ss m (y ++ (tok terminals.Equals e ∷ (z ++ rest))) ≡ Got (declarator_set_node ss m a ds e i) rest
  unfolding declared
  declared_set_reads ss m h d e {z = z} i c rest b =
      onto _ (dimensions_read h d (tok terminals.Equals e ∷ (z ++ rest)) refl) (onto _ (init_reads i c rest b) refl)

  pub full_declarator : {t : Syntax} {x : List Leaf} → Spells Declarator (one t) x → nesting t ≤ suc n →
      (rest : List Leaf) → Behind 12 rest → declarator_of low (x ++ rest) ≡ Got t rest
  unfolding declarator_of
  full_declarator (grammar.declarator grammar.maybe_none m {y = y} h) d rest b =
      declared_reads none m h (omega arith) rest b
  full_declarator (grammar.declarator (grammar.maybe_some {t = s} (grammar.star o {x = x} i)) m {y = y} h) d rest b =
      rw (append_assoc x (tok terminals.Name m ∷ y) rest)
      (onto _ (onto _ (f.star (grammar.star o i) (omega arith) (tok terminals.Name m ∷ (y ++ rest)) refl) refl)
      (declared_reads (more s none) m h (omega arith) rest b))
  full_declarator (grammar.declarator_set grammar.maybe_none m {ds = ds} {y = y} h e {i = t} {z = z} k) d rest b =
      rw (append_assoc y (tok terminals.Equals e ∷ z) rest)
      (declared_set_reads none m h (omega (arith, deepest_joined ds (more t none))) e k (omega (
        arith,
        deepest_joined ds (more t none),
      )) rest b)
  full_declarator (grammar.declarator_set (grammar.maybe_some {t = s} (grammar.star o {x = x} i)) m {ds = ds} {y = y}
      h e {i = t} {z = z} k) d rest b =
      rw (
        append_assoc x (tok terminals.Name m ∷ (y ++ (tok terminals.Equals e ∷ z))) rest,
        append_assoc y (tok terminals.Equals e ∷ z) rest,
      )
      (onto _ (onto _ (f.star (grammar.star o i) (omega arith) (tok terminals.Name m ∷
      (y ++ (tok terminals.Equals e ∷ (z ++ rest)))) refl) refl)
      (declared_set_reads (more s none) m h (omega (arith, deepest_joined ds (more t none))) e k (omega (
        arith,
        deepest_joined ds (more t none),
      )) rest b))

  declarators_follow : {a : List Spot} {ts : Forest} {x : List Leaf} →
      Spells (Many (Comma Declarator)) (list a ts) x → (rest : List Leaf) → Behind 12 rest → Behind 12 (x ++ rest)
  declarators_follow = commas_follow low.declarator Declarator (commas_shrink low.declarator Declarator g.declarator)
      n (λ t x h d rest b. f.declarator h d rest b)

  pub behind_declarator : {a : List Spot} {ts : Forest} {x : List Leaf} →
      Spells (Many (Comma Declarator)) (list a ts) x → (s : Spot) (rest : List Leaf) →
      Behind 12 (x ++ (tok terminals.Semicolon s ∷ rest))
  behind_declarator h s rest = declarators_follow h (tok terminals.Semicolon s ∷ rest) refl

  pub declare_rest_reads : (t d : Syntax) {a : List Spot} {ds : Forest} {z : List Leaf} →
      Spells (Many (Comma Declarator)) (list a ds) z → deepest ds ≤ n → (s : Spot) (rest : List Leaf) →
      declare_rest low t d (z ++ (tok terminals.Semicolon s ∷ rest)) ≡ Got (declare_node t d a ds s) rest
  unfolding declare_rest
  declare_rest_reads t d h e s rest =
      onto _ (commas_read low.declarator Declarator (commas_shrink low.declarator Declarator g.declarator) n
      (λ t x h d rest b. f.declarator h d rest b) h e (tok terminals.Semicolon s ∷ rest) refl refl) refl

  declarator_no_type : (j : Terminal) → starts_declarator j ≡ true → starts_type j ≡ false
  declarator_no_type terminals.Name e = refl
  declarator_no_type terminals.Star e = refl
  declarator_no_type _ e = absurd cc

  pub behind_type : {t : Syntax} {x : List Leaf} → Spells Declarator (one t) x → (rest : List Leaf) →
      begins starts_type (x ++ rest) ≡ false
  behind_type (grammar.declarator grammar.maybe_none m d) rest = refl
  behind_type (grammar.declarator (grammar.maybe_some (grammar.star o i)) m d) rest = refl
  behind_type (grammar.declarator_set grammar.maybe_none m d e i) rest = refl
  behind_type (grammar.declarator_set (grammar.maybe_some (grammar.star o j)) m d e i) rest = refl

  pub full_declare : {t : Syntax} {x : List Leaf} → Spells Declare (one t) x → nesting t ≤ suc n →
      (rest : List Leaf) → declare_of low (x ++ rest) ≡ Got t rest
  unfolding declare_of
  full_declare (grammar.declare {t = t} {x = x} h {d = e} {y = y} i {z = z} k s) d rest =
      rw (
        append_assoc x (y ++ (z ++ (tok terminals.Semicolon s ∷ []))) rest,
        append_assoc y (z ++ (tok terminals.Semicolon s ∷ [])) rest,
        append_assoc z (tok terminals.Semicolon s ∷ []) rest,
      )
      (onto _ (f.type' h (omega arith) (y ++ (z ++ (tok terminals.Semicolon s ∷ rest)))
      (behind_type i (z ++ (tok terminals.Semicolon s ∷ rest))))
      (onto _ (f.declarator i (omega arith) (z ++ (tok terminals.Semicolon s ∷ rest)) (behind_declarator k s rest))
      (declare_rest_reads t e k (omega arith) s rest)))

  elements_follow : {a : List Spot} {ts : Forest} {y : List Leaf} → Spells Elements (list a ts) y →
      (c : Spot) (rest : List Leaf) → Behind 12 (y ++ (tok terminals.CloseBrace c ∷ rest))
  elements_follow grammar.elements_end c rest = refl
  elements_follow (grammar.elements_comma k) c rest = refl
  elements_follow (grammar.elements_more k h i) c rest = refl

  element_goes : (ts : List Leaf) → begins (is terminals.Comma) ts ≡ true →
      all_of (is terminals.Comma) (element_of low) ts ≡
      after (element_of low ts) (onward (is terminals.Comma) (element_of low))
  element_goes ts b = all_goes (is terminals.Comma) (element_of low) (elements_shrink low g) ts b

  element_ends : (k c : Spot) (rest : List Leaf) →
      element_of low (tok terminals.Comma k ∷ tok terminals.CloseBrace c ∷ rest) ≡ Got (
        false,
        listing (k ∷ []) none,
      ) (tok terminals.CloseBrace c ∷ rest)
  unfolding element_of
  element_ends k c rest = refl

  element_reads : (k : Spot) {t : Syntax} {x : List Leaf} → Spells Assign (one t) x → nesting t ≤ n →
      (rest : List Leaf) → Behind 12 rest → element_of low (tok terminals.Comma k ∷ (x ++ rest)) ≡ Got (
        true,
        listing (k ∷ []) (more t none),
      ) rest
  unfolding element_of
  element_reads k {x = x} h d rest b =
      let c : begins (is terminals.CloseBrace) (x ++ rest) ≡ false =
      not_begun starts_expression terminals.CloseBrace refl (x ++ rest) (expression_first refl h rest) in
      rw c (onto _ (f.assign h d rest b) refl)

  elements_read : {a : List Spot} {ts : Forest} {y : List Leaf} → Spells Elements (list a ts) y → deepest ts ≤ n →
      (c : Spot) (rest : List Leaf) →
      all_of (is terminals.Comma) (element_of low) (y ++ (tok terminals.CloseBrace c ∷ rest)) ≡
      Got (listing a ts) (tok terminals.CloseBrace c ∷ rest)
  elements_read grammar.elements_end d c rest =
      all_stops (is terminals.Comma) (element_of low) (tok terminals.CloseBrace c ∷ rest) refl
  elements_read (grammar.elements_comma k) d c rest =
      element_goes (tok terminals.Comma k ∷ tok terminals.CloseBrace c ∷ rest) refl ∙
      onto _ (element_ends k c rest) refl
  elements_read (grammar.elements_more k {x = x} h {y = y} i) d c rest =
      element_goes (tok terminals.Comma k ∷ ((x ++ y) ++ (tok terminals.CloseBrace c ∷ rest))) refl
      ∙ onto _ (ap (λ l. element_of low (tok terminals.Comma k ∷ l))
      (append_assoc x y (tok terminals.CloseBrace c ∷ rest)) ∙
      element_reads k h (omega arith) (y ++ (tok terminals.CloseBrace c ∷ rest)) (elements_follow i c rest))
      (onto _ (elements_read i (omega arith) c rest) refl)

  pub full_initializers : {t : Syntax} {x : List Leaf} → Spells Initializers (one t) x → nesting t ≤ suc n →
      (rest : List Leaf) → initializers_of low (x ++ rest) ≡ Got t rest
  unfolding initializers_of
  full_initializers (grammar.initializers o {x = x} h {y = y} i c) d rest =
      rw (
        append_assoc x (y ++ (tok terminals.CloseBrace c ∷ [])) rest,
        append_assoc y (tok terminals.CloseBrace c ∷ []) rest,
      )
      (onto _ (f.assign h (omega arith) (y ++ (tok terminals.CloseBrace c ∷ rest)) (elements_follow i c rest))
      (onto _ (elements_read i (omega arith) c rest) refl))
