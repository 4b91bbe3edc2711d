use Rattle.vp_elab.proofs.design.Design.+push_full_name.Given as goal

abbrev pub decreases-push_full_name : goal.decreases-push_full_name
decreases-push_full_name l = l.id.0
