-- Next ids in the order of the kinds, one of each, are those that are told of the kinds.
use Rattle.std.proofs.Common.{◌≡◌, ◌≢◌, ℕ, ◌<◌, ◌≤◌, ◌==◌, List, [], ◌∷◌, refl, ap, sym, ◌∙◌, arith, subst, inl, inr, if◌then◌else◌}
use Rattle.ipam_data.specs.declared.kinds.Kind.{Kind}
use Rattle.ipam_data.specs.declared.kinds.Kind.TheVariants.{Vrfs, Rirs, Roles, Aggregates, Prefixes, Ranges, Addresses}
use Rattle.ipam_data.specs.RowList.{Rises}
use Rattle.ipam_data.proofs.RowLists.{eq_true, eq_false}
use Rattle.stored_tables.specs.Stored.{kinds, kind_number, next_place, next_ids}
use Rattle.stored_tables.specs.Opening.{told_next}
use Rattle.stored_tables.proofs.Segments.{HasKind, all_kinds, kinds_rise}

-- the kind of a number
kind_of : ℕ → Kind
kind_of n =
    if n == 1 then Vrfs else (if n == 2 then Rirs else (if n == 3 then Roles else (if n == 4 then Aggregates else (if n == 5 then Prefixes else (if n == 6 then Ranges else Addresses)))))

numbered : (kind : Kind) → kind_of (kind_number kind) ≡ kind
unfolding kind_of
numbered Vrfs = refl
numbered Rirs = refl
numbered Roles = refl
numbered Aggregates = refl
numbered Prefixes = refl
numbered Ranges = refl
numbered Addresses = refl

-- two kinds of one number are one
pub one_kind : (a b : Kind) → kind_number a ≡ kind_number b → a ≡ b
one_kind a b e = sym (numbered a) ∙ ap kind_of e ∙ numbered b

-- nothing is told of a kind that comes before all
told_none : (low : ℕ) (nexts : List (Kind × ℕ)) (kind : Kind) → Rises next_place low nexts → kind_number kind ≤ low → told_next nexts kind ≡ 0
told_none low [] kind r h = refl
told_none low (next ∷ nexts) kind r h =
    let a = r.0 in
    rw (eq_false (kind_number next.0) (kind_number kind) (let d : kind_number next.0 ≢ kind_number kind = omega arith in d)) (told_none (kind_number next.0) nexts kind r.1 (omega arith))

-- all kinds that are told are among these
abbrev pub AllAmong : List Kind → List (Kind × ℕ) → Type 0
AllAmong ks [] = Unit {0}
AllAmong ks (next ∷ nexts) = HasKind next.0 ks × AllAmong ks nexts

all_among : (nexts : List (Kind × ℕ)) → AllAmong kinds nexts
all_among [] = tt
all_among (next ∷ nexts) = (all_kinds next.0, all_among nexts)

-- past the first kind, the others are among the rest
among_rest : (k : Kind) (ks : List Kind) (nexts : List (Kind × ℕ)) → Rises next_place (kind_number k) nexts → AllAmong (k ∷ ks) nexts → AllAmong ks nexts
among_rest k ks [] r a = tt
among_rest k ks (next ∷ nexts) r a = (go a.0, among_rest k ks nexts (lower (kind_number k) (kind_number next.0) nexts (let l = r.0 in omega arith) r.1) a.1)
  where
    lower : (n low : ℕ) (nexts : List (Kind × ℕ)) → n ≤ low → Rises next_place low nexts → Rises next_place n nexts
    lower n low [] h r = tt
    lower n low (x ∷ xs) h r = (let l = r.0 in omega arith, r.1)

    go : HasKind next.0 (k ∷ ks) → HasKind next.0 ks
    go (inl e) = let l = r.0 in let s = ap kind_number e in absurd (omega arith)
    go (inr h) = h

has_above : (kind : Kind) (low : ℕ) (ks : List Kind) → Rises kind_number low ks → HasKind kind ks → low < kind_number kind
has_above kind low [] r h = absurd h
has_above kind low (k ∷ ks) r (inl e) = let a = r.0 in let b = ap kind_number e in omega arith
has_above kind low (k ∷ ks) r (inr h) = let a = r.0 in let b = has_above kind (kind_number k) ks r.1 h in omega arith

-- what is left to show behind the first kind
abbrev pub IsTail : (Kind → ℕ) → Kind → List Kind → List (Kind × ℕ) → Type 0
IsTail next k ks xs = Rises next_place (kind_number k) xs → AllAmong ks xs → ((j : Kind) → HasKind j ks → (told_next xs j ≡ next j) × (1 ≤ told_next xs j)) → next_ids next ks ≡ xs

-- a list of next ids in order that tells one of each kind is the list of these
told_by : (next : Kind → ℕ) (low : ℕ) (ks : List Kind) (nexts : List (Kind × ℕ)) → Rises kind_number low ks → Rises next_place low nexts → AllAmong ks nexts
    → ((k : Kind) → HasKind k ks → (told_next nexts k ≡ next k) × (1 ≤ told_next nexts k)) → next_ids next ks ≡ nexts
told_by next low [] [] r n a h = refl
told_by next low [] (x ∷ xs) r n a h = absurd a.0
told_by next low (k ∷ ks) [] r n a h = let l = (h k (inl refl)).1 in absurd (omega arith)
told_by next low (k ∷ ks) (x ∷ xs) r n a h = go a.0 (told_by next (kind_number k) ks xs r.1)
  where
    -- the first is of the first kind
    first_is : x.0 ≡ k → IsTail next k ks xs → next_ids next (k ∷ ks) ≡ x ∷ xs
    first_is e later =
        let here = h k (inl refl) in
        let hit : told_next (x ∷ xs) k ≡ x.1 = rw (eq_true (kind_number x.0) (kind_number k) (ap kind_number e)) refl in
        let rises : Rises next_place (kind_number k) xs = subst (λ (j : Kind). Rises next_place (kind_number j) xs) e n.1 in
        let rest = later rises (among_rest k ks xs rises a.1) (λ j m.
        let up = has_above j (kind_number k) ks r.1 m in
        let miss : told_next (x ∷ xs) j ≡ told_next xs j = rw (eq_false (kind_number x.0) (kind_number j) (let s = ap kind_number e in let d : kind_number x.0 ≢ kind_number j = omega arith in d)) refl in
        let old = h j (inr m) in
        (sym miss ∙ old.0, subst (λ (v : ℕ). 1 ≤ v) miss old.1)) in
        let number : next k ≡ x.1 = sym here.0 ∙ hit in
        ap (λ (ys : List (Kind × ℕ)). (k, next k) ∷ ys) rest ∙ ap (λ (v : ℕ). (k, v) ∷ xs) number ∙ ap (λ (j : Kind). (j, x.1) ∷ xs) (sym e)

    go : HasKind x.0 (k ∷ ks) → IsTail next k ks xs → next_ids next (k ∷ ks) ≡ x ∷ xs
    go (inl e) later = first_is (sym e) later
    go (inr m) later =
        let up = has_above x.0 (kind_number k) ks r.1 m in
        let none : told_next (x ∷ xs) k ≡ 0 = rw (eq_false (kind_number x.0) (kind_number k) (let d : kind_number x.0 ≢ kind_number k = omega arith in d)) (told_none (kind_number x.0) xs k n.1 (omega arith)) in
        let l = (h k (inl refl)).1 in
        absurd (omega arith)

-- so it is with the kinds of the register
pub all_told : (nexts : List (Kind × ℕ)) → Rises next_place 0 nexts → ((kind : Kind) → 1 ≤ told_next nexts kind) → next_ids (told_next nexts) kinds ≡ nexts
all_told nexts r h = told_by (told_next nexts) 0 kinds nexts kinds_rise r (all_among nexts) (λ k m. (refl, h k))
