mod Accepting
