mod RigLemmas
