-- What a store holds behind a keeper that went back, and what is said of a fault of tables.
use Rattle.std.proofs.Common.{◌≡◌, ℕ, ◌≤◌, ◌⊎◌, List, inl, inr, Option, Some, None, Bool, true, false, bytes_eq, refl, subst, sym, ap, ◌∙◌, arith}
use Rattle.std.proofs.lemmas.Slice.Eq.{bytes_eq-Decides}
use Rattle.stored_tables.specs.declared.tables.Tables.{Tables}
use Rattle.stored_tables.specs.declared.opening.OpenFault.{OpenFault}
use Rattle.stored_tables.specs.declared.opening.OpenFault.TheVariants.{Keeper, BadTables, Memory, BadRow, Version, BadNext, Limit}
use Rattle.stored_tables.specs.Opening.{IsOfTables}
use Rattle.ipam_keeper.specs.Keeping.{Rose, IsRaised, started, tables_at, IsReturned, AreGiven}
use Rattle.ipam_edge.proofs.FaultLemmas.{unless}
use Rattle.command_streams.specs.Streams.{Told, EndsWith}
use Rattle.command_store.specs.Outside.{AreSame, Outside, NoCountRises}
use Rattle.command_store.specs.FaultWords.{IsSaid, fault_line}

-- tables that were not used are as they were
pub not_used : (stored : Option (List (List ℕ × Tables))) → AreSame stored stored
not_used None = tt
not_used (Some entries) = λ path. refl

pub unchanged : (old new : Option (List (List ℕ × Tables))) → new ≡ old → AreSame old new
unchanged old new same = subst (AreSame old) (sym same) (not_used old)

-- what stands under a path, by whether it is the keeper's
beside : (path other : List ℕ) (entries new : List (List ℕ × Tables)) (b : Bool) → bytes_eq other path ≡ b
    → tables_at new path ≡ tables_at entries path → ((q : List ℕ) → ¬ (q ≡ path) → tables_at new q ≡ tables_at entries q)
    → tables_at new other ≡ tables_at entries other
beside path other entries new true is given stay =
    subst (λ (q : List ℕ). tables_at new q ≡ tables_at entries q) (sym ((bytes_eq-Decides other path).0 is)) given
beside path other entries new false is given stay = stay other (λ same. (let yes_ = (bytes_eq-Decides other path).1 same in cc))

-- a keeper that still has the tables with which it was started leaves all as it was
pub back_again : (db : Option (List ℕ)) (told : Option Tables) (old new : Option (List (List ℕ × Tables)))
    → told ≡ started old db → IsReturned (Some db) told old new → AreSame old new
back_again None told old new is returned = unchanged old new returned
back_again (Some path) told None new is returned = tt
back_again (Some path) told (Some entries) None is returned = absurd returned.1
back_again (Some path) told (Some entries) (Some new) is returned = λ other.
    beside path other entries new (bytes_eq other path) refl
    (subst (λ (t : Option Tables). AreGiven path t (Some new)) is returned.0) returned.1

-- where a keeper that went back had failed, the opener's count rose
pub raised_rose : (old mid few more new : ℕ) → old ≤ mid → Rose few more → IsRaised mid more new → Rose old new
raised_rose old mid few more new later (inl above) (inl is) = inl (omega arith)
raised_rose old mid few more new later (inr last) (inl is) = inr (omega arith)
raised_rose old mid few more new later rose (inr is) = inr (let e = is.1 in omega arith)

pub raised_later : (old mid more new : ℕ) → old ≤ mid → IsRaised mid more new → old ≤ new
raised_later old mid more new later (inl is) = omega arith
raised_later old mid more new later (inr is) = (let e = is.0 in omega arith)

-- the same, with what is known of the opener and of the keeper by then
pub back_after : (db : Option (List ℕ)) (lent : Option (Option (List ℕ))) (told last : Option Tables) (old mid new : Option (List (List ℕ × Tables)))
    → lent ≡ Some db → mid ≡ old → last ≡ told → told ≡ started old db → IsReturned lent last mid new → AreSame old new
back_after db lent told last old mid new out stays same is returned =
    let here = subst (λ (l : Option (Option (List ℕ))). IsReturned l last mid new) out returned in
    back_again db last old new (same ∙ is) (subst (λ (s : Option (List (List ℕ × Tables))). IsReturned (Some db) last s new) stays here)

-- a fault that is neither the store's nor of memory is one of the tables
pub of_tables : (fault : OpenFault) → ¬ (fault ≡ Keeper) → ¬ (fault ≡ Memory) → IsOfTables fault
of_tables Keeper k m = k refl
of_tables Memory k m = m refl
of_tables (BadTables kind n rule) k m = tt
of_tables (BadRow kind n) k m = tt
of_tables (Version n) k m = tt
of_tables (BadNext kind) k m = tt
of_tables (Limit which n) k m = tt

-- a fault of tables was said
pub said_of_tables : (fault : OpenFault) (old new : Told) (message : List ℕ) (status : ℕ) → ¬ (fault ≡ Keeper) → ¬ (fault ≡ Memory) → message ≡ fault_line fault
    → EndsWith old new message 1 status → IsSaid fault old new status
said_of_tables Keeper old new message status k m is ends = absurd (k refl)
said_of_tables Memory old new message status k m is ends = absurd (m refl)
said_of_tables (BadTables kind n rule) old new message status k m is ends = inl (subst (λ (t : List ℕ). EndsWith old new t 1 status) is ends)
said_of_tables (BadRow kind n) old new message status k m is ends = inl (subst (λ (t : List ℕ). EndsWith old new t 1 status) is ends)
said_of_tables (Version n) old new message status k m is ends = inl (subst (λ (t : List ℕ). EndsWith old new t 1 status) is ends)
said_of_tables (BadNext kind) old new message status k m is ends = inl (subst (λ (t : List ℕ). EndsWith old new t 1 status) is ends)
said_of_tables (Limit which n) old new message status k m is ends = inl (subst (λ (t : List ℕ). EndsWith old new t 1 status) is ends)

silent_else : (old new : Told) (line : List ℕ) (status : ℕ) → status ≡ 5 → EndsWith old new line 1 status ⊎ ((status ≡ 5) × (new ≡ old)) → new ≡ old
silent_else old new line status five (inl (inl (one, gains))) = absurd (omega (arith, five, one))
silent_else old new line status five (inl (inr (three, failed, front))) = absurd (omega (arith, five, three))
silent_else old new line status five (inr (same, silent)) = silent

-- for want of memory nothing is said, of no failure of the store
pub silent_want : (fault : OpenFault) (old new : Told) (status : ℕ) → status ≡ 5 → IsSaid fault old new status → (fault ≡ Keeper → ⊥) × (new ≡ old)
silent_want Keeper old new status five (inl (four, gains)) = absurd (omega (arith, five, four))
silent_want Keeper old new status five (inr (three, failed, front)) = absurd (omega (arith, five, three))
silent_want Memory old new status five (same, silent) = (λ e. cc e, silent)
silent_want (BadTables kind n rule) old new status five said = (λ e. cc e, silent_else old new (fault_line (BadTables kind n rule)) status five said)
silent_want (BadRow kind n) old new status five said = (λ e. cc e, silent_else old new (fault_line (BadRow kind n)) status five said)
silent_want (Version n) old new status five said = (λ e. cc e, silent_else old new (fault_line (Version n)) status five said)
silent_want (BadNext kind) old new status five said = (λ e. cc e, silent_else old new (fault_line (BadNext kind)) status five said)
silent_want (Limit which n) old new status five said = (λ e. cc e, silent_else old new (fault_line (Limit which n)) status five said)

-- an opening that was refused for want of memory, or whose fault could not be said for want of it: no count rose
pub quiet_refused : (old new : Outside) (fault : OpenFault) (status : ℕ) → (fault ≡ Keeper) ⊎ (new.stores.faults ≡ old.stores.faults)
    → IsSaid fault old.streams.errors new.streams.errors status → new.streams.input.faults ≡ old.streams.input.faults → new.streams.output.faults ≡ old.streams.output.faults
    → status ≡ 5 → NoCountRises old new
quiet_refused old new fault status still said read wrote five =
    let want = silent_want fault old.streams.errors new.streams.errors status five said in
    record { streams = record { input = read; output = wrote; errors = ap (λ t. t.faults) want.1 }; stores = unless want.0 still }
