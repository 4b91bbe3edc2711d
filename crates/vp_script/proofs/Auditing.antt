-- What an audit rests on, and why there is none.
use Rattle.std.proofs.Common.{◌≡◌, ◌∙◌, ◌≤◌, ℕ, Bool, List, length, None, Ok, Some, Option, inl, inr, ap, sym, subst}
use Rattle.vp_source.specs.declared.source.Source.{Source}
use Rattle.vp_modules.specs.ModuleRefusals as modules
use Rattle.vp_elab.specs.Built.{Elaborated, design_of}
use Rattle.vp_elab.proofs.Distinct.{neither}
use Rattle.vp_policy.specs.File.{file_in, file_of, policy_for}
use Rattle.vp_policy.specs.PolicyState.{Fits, PolicyState}
use Rattle.vp_policy.specs.Users.{user_of}
use Rattle.vp_elab.specs.Tree.{Tree}
use Rattle.vp_audit.specs.Openings.{IsRight}
use Rattle.vp_script.specs.declared.audits.Audited.{Audited}
use Rattle.vp_script.specs.declared.error.ServeFault.{ServeFault}
use Rattle.vp_script.specs.declared.error.ServeFault.TheVariants as fault
use Rattle.vp_world.specs.Worlds.{Opening}
use Rattle.vp_wire.specs.declared.error.WireError.{WireError}
use Rattle.vp_script.specs.Audits.{EndsAuditBy, EndsOpenedBy, EndsRunBy, IsAuditAfter, IsAudited, IsOutOfMemory, OpensFor, RunsTo, audited_of}
use Rattle.vp_design.specs.Designs.{IsDesignOf, text_limit}
use Rattle.vp_script.specs.Scripts.{IsAnswered, IsOpened, IsStopped, Script, new_world, opened, opening_of}
use Rattle.vp_script.specs.Views.{Gives, IsUntoldUnder}

-- the design of a text is elaborated of right modules
right_by : (text : List ℕ) (design : Elaborated) (policy : PolicyState) → IsDesignOf text design → Fits policy design.tree → IsRight (opening_of design policy)
right_by text design policy of fits =
    let same : of.source ≡ design.source = sym (ap (λ (d : Elaborated). d.source) of.is_design) in
    record {
      fits = fits;
      built = record { protection = of.protection; is = of.is_design ∙ ap (λ (s : Source). design_of s of.protection) same };
      right = subst (λ (s : Source). modules.refusal_of s ≡ None) same (neither (modules.refusal_of of.source) _ of.names).0;
    }

-- a policy of this tree is that of its file for the tree
policy_is : (p : PolicyState) (tree : Tree) → p.tree ≡ tree → p ≡ policy_for tree (file_in p)
policy_is p tree is = ap (λ (t : Tree). policy_for t (file_in p)) is

-- a design and a policy that were read for it
pub record IsRead (text bytes : List ℕ) (design : Elaborated) (policy : PolicyState) : Type 0 where
  pub of : IsDesignOf text design
  pub fits : length bytes ≤ text_limit
  pub is_file : file_of design.tree.authors bytes ≡ Ok (file_in policy)
  pub for_it : Fits policy design.tree

-- the same of a design that is shared, and lent to the reading of the policy file
pub read_of :
    (text bytes : List ℕ) (shared lent : Elaborated) (policy : PolicyState) → IsDesignOf text shared → lent ≡ shared
    → length bytes ≤ text_limit → file_of lent.tree.authors bytes ≡ Ok (file_in policy) → Fits policy lent.tree
    → IsRead text bytes shared policy
read_of text bytes shared lent policy of is_lent fits is_file for_it = record {
  of = of;
  fits = fits;
  is_file = subst (λ (d : Elaborated). file_of d.tree.authors bytes ≡ Ok (file_in policy)) is_lent is_file;
  for_it = for_it ∙ ap (λ (d : Elaborated). d.tree) is_lent;
}

module _ (text bytes : List ℕ) (design : Elaborated) (policy : PolicyState) (read : IsRead text bytes design policy) where
  -- a world may open with them
  pub right_of : IsRight (opening_of design policy)
  right_of = right_by text design policy read.of read.for_it

  -- and a script opens with them
  pub opens_with : IsOpened text bytes (new_world (opening_of design policy))
  opens_with = record {
    design = design;
    is_design = read.of;
    fits = read.fits;
    file = file_in policy;
    is_file = read.is_file;
    fresh = ap (λ (p : PolicyState). new_world (opening_of design p)) (policy_is policy design.tree read.for_it);
  }

  -- the policy's file gives its users
  gives : Gives bytes design (file_in policy)
  gives = record { fits = read.fits; is_file = read.is_file }

  -- a view may be refused when out of memory
  allocation_error : (name : List ℕ) (f : ServeFault) → IsOutOfMemory f → IsUntoldUnder bytes name design f
  allocation_error name (fault.Policy e) h = inr (file_in policy, gives, h)
  allocation_error name (fault.World e) h = inl h
  allocation_error name fault.NoMemory h = inl tt
  allocation_error name (fault.Design e) h = absurd h
  allocation_error name (fault.Lines e) h = absurd h
  allocation_error name fault.BadBundle h = absurd h
  allocation_error name fault.ReadFailed h = absurd h
  allocation_error name fault.TooLong h = absurd h
  allocation_error name fault.NoSuchUser h = absurd h

  module _ (seeds : ℕ) (name : List ℕ) (unread still_unread : Option (List ℕ)) where
    -- before the script: the policy file is refused, or has no such user
    untold : (f : ServeFault) → IsUntoldUnder bytes name design f → still_unread ≡ unread → EndsAuditBy seeds text bytes name unread still_unread f
    untold f refused still = inl (inr (design, read.of, refused), still)

    pub no_such_user : (f : ServeFault) → f ≡ fault.NoSuchUser → user_of policy.members name ≡ None → still_unread ≡ unread → EndsAuditBy seeds text bytes name unread still_unread f
    no_such_user f is none still =
        subst (λ (g : ServeFault). EndsAuditBy seeds text bytes name unread still_unread g) (sym is) (untold fault.NoSuchUser (inr (file_in policy, gives, none)) still)

    module _ (user : ℕ) (named : user_of policy.members name ≡ Some user) where
      opens_for : OpensFor text bytes name (opening_of design policy) user
      opens_for = record { opens = opens_with; named = named }

      pub audited : (explain : Bool) (audited : Audited) → IsAuditAfter seeds explain (opening_of design policy) user unread still_unread audited → IsAudited seeds explain text bytes name unread still_unread audited
      audited explain given is = record { opening = opening_of design policy; user = user; opens = opens_for; following = is }

      -- after its beginning
      pub ended : (f : ServeFault) → EndsOpenedBy seeds (opening_of design policy) unread still_unread f → EndsAuditBy seeds text bytes name unread still_unread f
      ended f (inl (lacks, still)) = untold f (allocation_error name f lacks) still
      ended f (inr ends) = inr (opening_of design policy, user, opens_for, ends)

-- of a design that is lent comes what comes of its owner's, and of a script's seeds what comes of those that were asked for
module _ (lent own : Elaborated) (same : lent ≡ own) (tried seeds : ℕ) (asked : tried ≡ seeds) (policy : PolicyState) (unread still_unread : Option (List ℕ)) where
  pub audit_of_own :
      (explain : Bool) (user : ℕ) (audited : Audited) → IsAuditAfter tried explain (opening_of lent policy) user unread still_unread audited
      → IsAuditAfter seeds explain (opening_of own policy) user unread still_unread audited
  audit_of_own explain user audited is =
      subst (λ (n : ℕ). IsAuditAfter n explain (opening_of own policy) user unread still_unread audited) asked
      (subst (λ (d : Elaborated). IsAuditAfter tried explain (opening_of d policy) user unread still_unread audited) same is)

  pub ends_own : (f : ServeFault) → EndsRunBy tried (opening_of lent policy) unread still_unread f → EndsOpenedBy seeds (opening_of own policy) unread still_unread f
  ends_own f ends =
      inr (subst (λ (n : ℕ). EndsRunBy n (opening_of own policy) unread still_unread f) asked
      (subst (λ (d : Elaborated). EndsRunBy tried (opening_of d policy) unread still_unread f) same ends))

-- a script that opens with a design and a policy, which are lent
pub opens_lent :
    (seeds : ℕ) (script : Script) (own lent : Elaborated) (policy : PolicyState) → script ≡ opened seeds (opening_of own policy) → own ≡ lent
    → script ≡ opened script.running.seeds (opening_of lent policy)
opens_lent seeds script own lent policy opens same =
    let kept : seeds ≡ script.running.seeds = sym (ap (λ (s : Script). s.running.seeds) opens) in
    opens ∙ ap (λ (d : Elaborated). opened seeds (opening_of d policy)) same ∙ ap (λ (n : ℕ). opened n (opening_of lent policy)) kept

module _ (seeds : ℕ) (opening : Opening) (unread still_unread : Option (List ℕ)) where
  module _ (script : Script) (opens : script ≡ opened seeds opening) where
    -- a script that opens so is run
    pub runs_to : (out_of_memory : Bool) (following : Script) (lines : ℕ) → IsAnswered out_of_memory script following unread still_unread None None lines → RunsTo seeds out_of_memory opening unread still_unread following
    runs_to out_of_memory following lines answered = record {
      lines = lines;
      answered = subst (λ (s : Script). IsAnswered out_of_memory s following unread still_unread None None lines) opens answered;
    }

    -- or has stopped
    pub stops : (e : WireError) → IsStopped e script unread still_unread None None → EndsRunBy seeds opening unread still_unread (fault.Lines e)
    stops e stopped = subst (λ (s : Script). IsStopped e s unread still_unread None None) opens stopped

  module _ (out_of_memory : Bool) (following : Script) (runs : RunsTo seeds out_of_memory opening unread still_unread following) where
    -- after a run its log is audited
    pub audit_after :
        (began : following.running.world.opening ≡ opening) (explain : Bool) (user : ℕ) (audited : Audited) → audited ≡ audited_of explain out_of_memory following.running.world.opening user following.running.world.log
        → IsAuditAfter seeds explain opening user unread still_unread audited
    audit_after began explain user audited is =
        let log = following.running.world.log in
        let told : out_of_memory ≡ audited.out_of_memory = sym (ap (λ (a : Audited). a.out_of_memory) is) in
        record {
          following = following;
          runs = subst (λ (b : Bool). RunsTo seeds b opening unread still_unread following) told runs;
          is = is ∙ ap (λ (o : Opening). audited_of explain out_of_memory o user log) began ∙ ap (λ (b : Bool). audited_of explain b opening user log) told;
        }

    -- or memory is lacking for that
    pub lacks_after : (f : ServeFault) → f ≡ fault.NoMemory → EndsRunBy seeds opening unread still_unread f
    lacks_after f is = subst (EndsRunBy seeds opening unread still_unread) (sym is) (out_of_memory, following, runs)
