-- Reads, one after another.
use Rattle.std.proofs.Common.{◌≡◌, ◌∙◌, ◌<◌, ◌++◌, ℕ, List, [], ◌∷◌, length, Option, Some, None, refl, sym, ap, subst, append_assoc, append-nil}
use Rattle.ipam_edge.specs.Reading.{Step, Last, Open, Told, Failed, Reads, joined, GrownByReads}

joined-append : (ps qs : List (List ℕ)) → joined (ps ++ qs) ≡ joined ps ++ joined qs
joined-append [] qs = refl
joined-append (p ∷ ps) qs = ap (λ l. p ++ l) (joined-append ps qs) ∙ sym (append_assoc p (joined ps) (joined qs))

module _ {S : Type 0} (step : Step S) where
  reads_joined : (P : List ℕ → Type 0) (s : S) (so_far : List ℕ) (ps : List (List ℕ)) (m : S) (qs : List (List ℕ)) (last : Last) (t : S) → Reads step P s so_far ps Open m
      → Reads step P m (so_far ++ joined ps) qs last t → Reads step P s so_far (ps ++ qs) last t
  reads_joined P s so_far [] m qs last t first second =
      subst (λ (x : S). Reads step P x so_far qs last t) first (subst (λ (b : List ℕ). Reads step P m b qs last t) (append-nil so_far) second)
  reads_joined P s so_far (p ∷ ps) m qs last t (mid, here, some, stepped, rest) second =
      (mid, here, some, stepped, reads_joined P mid (so_far ++ p) ps m qs last t rest (subst (λ (b : List ℕ). Reads step P m b qs last t) (sym (append_assoc so_far p (joined ps))) second))

  -- the same reads, seen behind other bytes
  reads_seen : (P Q : List ℕ → Type 0) (s : S) (a b : List ℕ) (ps : List (List ℕ)) (last : Last) (t : S) → ((more : List ℕ) → P (a ++ more) → Q (b ++ more)) → Reads step P s a ps last t → Reads step Q s b ps last t
  reads_seen P Q s a b [] Open t f r = r
  reads_seen P Q s a b [] Told t f (here, stepped) = (subst Q (append-nil b) (f [] (subst P (sym (append-nil a)) here)), stepped)
  reads_seen P Q s a b [] Failed t f (here, stepped) = (subst Q (append-nil b) (f [] (subst P (sym (append-nil a)) here)), stepped)
  reads_seen P Q s a b (p ∷ ps) last t f (mid, here, some, stepped, rest) = (
    mid,
    subst Q (append-nil b) (f [] (subst P (sym (append-nil a)) here)),
    some,
    stepped,
    reads_seen P Q mid (a ++ p) (b ++ p) ps last t (λ more h. subst Q (sym (append_assoc b p more)) (f (p ++ more) (subst P (append_assoc a p more) h))) rest,
  )

  -- no read
  pub read_nothing : (P : List ℕ → Type 0) (s t : S) (bytes new : List ℕ) → t ≡ s → new ≡ bytes → GrownByReads step P s t bytes new Open
  read_nothing P s t bytes new e f = record { pieces = []; reads = e; grown = f ∙ sym (append-nil bytes) }

  -- one read of some bytes
  pub read_piece : (P : List ℕ → Type 0) (s t : S) (bytes new piece : List ℕ) → P bytes → 0 < length piece → step s (Some piece) t → new ≡ bytes ++ piece → GrownByReads step P s t bytes new Open
  read_piece P s t bytes new piece here some stepped e =
      record { pieces = piece ∷ []; reads = (t, here, some, stepped, refl); grown = e ∙ ap (λ l. bytes ++ l) (sym (append-nil piece)) }

  -- a read that said that the input has ended
  pub read_end : (P : List ℕ → Type 0) (s t : S) (bytes new : List ℕ) → P bytes → step s (Some []) t → new ≡ bytes → GrownByReads step P s t bytes new Told
  read_end P s t bytes new here stepped e = record { pieces = []; reads = (here, stepped); grown = e ∙ sym (append-nil bytes) }

  -- a read that failed
  pub read_fault : (P : List ℕ → Type 0) (s t : S) (bytes new : List ℕ) → P bytes → step s None t → new ≡ bytes → GrownByReads step P s t bytes new Failed
  read_fault P s t bytes new here stepped e = record { pieces = []; reads = (here, stepped); grown = e ∙ sym (append-nil bytes) }

  -- reads behind reads
  pub read_then : (P : List ℕ → Type 0) (s m t : S) (old now new : List ℕ) (last : Last) → GrownByReads step P s m old now Open → GrownByReads step P m t now new last → GrownByReads step P s t old new last
  read_then P s m t old now new last first second =
      record {
        pieces = first.pieces ++ second.pieces;
        reads = reads_joined P s old first.pieces m second.pieces last t first.reads (subst (λ (b : List ℕ). Reads step P m b second.pieces last t) first.grown second.reads);
        grown = second.grown ∙ ap (λ l. l ++ joined second.pieces) first.grown ∙ append_assoc old (joined first.pieces) (joined second.pieces) ∙ ap (λ l. old ++ l) (sym (joined-append first.pieces second.pieces));
      }

  -- the same reads, seen behind other bytes
  pub read_as : (P Q : List ℕ → Type 0) (s t : S) (a b now got : List ℕ) (last : Last) → ((more : List ℕ) → P (a ++ more) → Q (b ++ more)) → (reads : GrownByReads step P s t a now last) → got ≡ joined reads.pieces → GrownByReads step Q s t b (b ++ got) last
  read_as P Q s t a b now got last f reads e = record { pieces = reads.pieces; reads = reads_seen P Q s a b reads.pieces last t f reads.reads; grown = ap (λ l. b ++ l) e }

  -- more was known at each read
  pub read_better : (P Q : List ℕ → Type 0) (s t : S) (old new : List ℕ) (last : Last) → ((more : List ℕ) → P (old ++ more) → Q (old ++ more)) → GrownByReads step P s t old new last → GrownByReads step Q s t old new last
  read_better P Q s t old new last f reads = record { pieces = reads.pieces; reads = reads_seen P Q s old old reads.pieces last t f reads.reads; grown = reads.grown }

  -- the last read said no more than bytes
  pub read_open : (P : List ℕ → Type 0) (s t : S) (old new : List ℕ) (last : Last) → last ≡ Open → GrownByReads step P s t old new last → GrownByReads step P s t old new Open
  read_open P s t old new last e reads = subst (λ (l : Last). GrownByReads step P s t old new l) e reads

  -- what a read leaves as it was is so after reads
  kept_in_reads : {A : Type 0} (f : S → A) → ((a b : S) (g : Option (List ℕ)) → step a g b → f b ≡ f a) → (P : List ℕ → Type 0) (s : S) (so_far : List ℕ) (ps : List (List ℕ)) (last : Last) (t : S) → Reads step P s so_far ps last t → f t ≡ f s
  kept_in_reads f law P s so_far [] Open t e = ap f e
  kept_in_reads f law P s so_far [] Told t (here, stepped) = law s t (Some []) stepped
  kept_in_reads f law P s so_far [] Failed t (here, stepped) = law s t None stepped
  kept_in_reads f law P s so_far (p ∷ ps) last t (mid, here, some, stepped, rest) = kept_in_reads f law P mid (so_far ++ p) ps last t rest ∙ law s mid (Some p) stepped

  pub kept_by_reads : {A : Type 0} (f : S → A) → ((a b : S) (g : Option (List ℕ)) → step a g b → f b ≡ f a) → (P : List ℕ → Type 0) (s t : S) (old new : List ℕ) (last : Last) → GrownByReads step P s t old new last → f t ≡ f s
  kept_by_reads f law P s t old new last reads = kept_in_reads f law P s old reads.pieces last t reads.reads

-- the same reads, seen on a part of the object
module _ {S T : Type 0} (step : Step S) (part : Step T) (f : S → T) (law : (a b : S) (g : Option (List ℕ)) → step a g b → part (f a) g (f b)) where
  reads_of_part : (P : List ℕ → Type 0) (s : S) (so_far : List ℕ) (ps : List (List ℕ)) (last : Last) (t : S) → Reads step P s so_far ps last t → Reads part P (f s) so_far ps last (f t)
  reads_of_part P s so_far [] Open t e = ap f e
  reads_of_part P s so_far [] Told t (here, stepped) = (here, law s t (Some []) stepped)
  reads_of_part P s so_far [] Failed t (here, stepped) = (here, law s t None stepped)
  reads_of_part P s so_far (p ∷ ps) last t (mid, here, some, stepped, rest) = (f mid, here, some, law s mid (Some p) stepped, reads_of_part P mid (so_far ++ p) ps last t rest)

  pub read_by_part : (P : List ℕ → Type 0) (s t : S) (old new : List ℕ) (last : Last) → GrownByReads step P s t old new last → GrownByReads part P (f s) (f t) old new last
  read_by_part P s t old new last reads = record { pieces = reads.pieces; reads = reads_of_part P s old reads.pieces last t reads.reads; grown = reads.grown }
